-- The row of an ID by rows that are lent: by the table's own rows it is the table's.
use mathlib.Core.Path.{◌≡◌, refl, sym}
use mathlib.Core.Bool.{Bool}
use Prim.Native.Nat.{ℕ}
use lib.Dec.{ltb, nltb→le}
use lib.ListN.{get_or, get_or-eq_default}
use borrow.Author.Tests.{lt-ltb}
use Rattle.rules.specs.declared.Entry.{Entry}
use Rattle.rules.specs.Place.{parts_of, width_of}
use Rattle.rules.proofs.Basics.Tests.{by-test}
use Rattle.descriptor.specs.Rows.{classes, rows, class_of, row_at}
use Rattle.descriptor.specs.Find.{fields_of, named_of}
use Rattle.descriptor.specs.Reading.{class_by, row_by, spaced_by, shaped}
use Rattle.descriptor.proofs.TableRows.{class-small, row}

pub class-table : (id : ℕ) → class_by classes id ≡ class_of id
unfolding class_by class_of
class-table id =
    by-test (λ n. n ≡ get_or classes id 0) (ltb id 19) (get_or classes id 0) 0 (λ _. refl) (λ t. sym (get_or-eq_default classes 0 (nltb→le id 19 t)))

pub row-table : (id : ℕ) → row_by classes rows id ≡ row_at id
unfolding row_by
row-table id = rw (class-table id, lt-ltb (class_of id) 11 (class-small id)) refl

-- where the fields of an entry lie
pub spaced-table : (e : Entry) → spaced_by (row_at e.id) e.offset ≡ fields_of e
unfolding parts_of width_of
spaced-table e = rw ((row e.id).parts, (row e.id).width) refl

-- what a call needs of an entry
pub shaped-table : (in_ro : Bool) (e : Entry) → shaped (row_at e.id) (named_of in_ro e) ≡ named_of in_ro e
unfolding named_of
shaped-table in_ro e = rw (spaced-table e) refl
