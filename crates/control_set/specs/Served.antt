-- What apply is asked is refused with 13, or served as it is.
use Rattle.std.specs.Prelude.{◌≡◌, Result, Ok, Err}
use Rattle.rules.specs.declared.Refusal.{Refusal}
use Rattle.rules.specs.Refuse.{refuses, at_lowest}
use Rattle.control_set.specs.declared.chosen.Chosen.{Chosen}
use Rattle.control_set.specs.declared.served.Served.{Served}
use Rattle.control_set.specs.Chosen.{lacks_by}

abbrev pub ServedAs : Chosen → Result Served Refusal → Type 0
ServedAs c (Ok s) = s.chosen ≡ c
ServedAs c (Err r) = at_lowest 13 (lacks_by c) ≡ refuses r
