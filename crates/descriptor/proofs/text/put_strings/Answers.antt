-- `put_strings` meets its contract.
use mathlib.Core.Path.{sym}
use native.Mathlib.Omega.{arith}
use Rattle.rules.proofs.Load.LoadNumber.{load-number}
use Rattle.descriptor.proofs.text.put_strings.Goals as goal

pub put_refused-requires : goal.put_refused-requires
put_refused-requires c = omega (arith, load-number c.args.desc.count c.args.desc.rw.now c.args.desc.ro.now _ (sym c.in-Err.ensures))

pub put_map-requires : goal.put_map-requires
put_map-requires c =
    let l = c.in-Ok.field-0 in
    record { rw_count = l.rw_count; ro_count = l.ro_count; staged = l.staged_length; active = l.active_length; loads = sym c.in-Ok.ensures }
