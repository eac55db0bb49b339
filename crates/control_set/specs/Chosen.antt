-- The chosen lanes of an apply by their AppSels: those that 13 refuses, and those that an entry is copied in.
use Rattle.std.specs.Prelude.{◌≡◌, Bool, true, ◌&&◌, not, ℕ, ◌≤◌, ◌<◌}
use Rattle.rules.specs.Numbers.{bit_of}
use Rattle.rules.specs.Descriptor.{is_app, has_app}
use Rattle.rules.specs.Refuse.{chooses}
use Rattle.rules.specs.Bank.{app_sel_in}
use Rattle.control_set.specs.declared.chosen.Chosen.{Chosen}
use Rattle.control_set.specs.Lanes.{NoLane}

-- the AppSel of a lane
abbrev pub app_of : Chosen → ℕ → ℕ
app_of c i = app_sel_in c.bank.now c.set i

-- 13
unfoldable pub lacks_by : Chosen → ℕ → Bool
lacks_by c i = chooses c.lanes i && not (is_app c.desc.count (app_of c i))

abbrev pub copies_by : Chosen → ℕ → ℕ → Bool
copies_by c mask i = chooses c.lanes i && has_app c.desc.count mask (app_of c i)

-- a mask has the AppSel of every chosen lane below k, and may have others
abbrev pub Wanted : ℕ → Chosen → ℕ → Type 0
Wanted k c apps = (i : ℕ) → 1 ≤ i → i < k → chooses c.lanes i ≡ true → bit_of apps (app_of c i) ≡ true

-- a chosen lane whose AppSel has a bit
abbrev pub has_one_of : Chosen → ℕ → ℕ → Bool
has_one_of c apps i = chooses c.lanes i && bit_of apps (app_of c i)

-- 13 refuses no lane, and a mask has all of their AppSels
pub record Serves (c : Chosen) (apps : ℕ) : Type 0 where
  pub clear : NoLane (lacks_by c)
  pub wanted : Wanted 9 c apps
