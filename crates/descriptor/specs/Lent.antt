-- A definition of a count and two strings, said of the descriptors that are lent.
use Rattle.std.specs.Prelude.{List, ℕ}
use Rattle.descriptor.specs.declared.Descriptors.{Descriptors}

abbrev pub over {ℓ} : {A : Type ℓ} → (ℕ → List ℕ → List ℕ → A) → Descriptors → A
over f d = f d.count d.rw.now d.ro.now
