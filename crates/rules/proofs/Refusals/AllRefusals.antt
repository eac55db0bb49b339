-- DEMAND 1: every field of `Refusals`, for any strings, count and bank.
use Rattle.rules.specs.Demands.{Demand1}
use Rattle.rules.proofs.Refusals.EntryRules.{entry-says}
use Rattle.rules.proofs.Refusals.MediaSide.{way-media}
use Rattle.rules.proofs.Refusals.EntryNumbers.{rw-numbers, ro-numbers}
use Rattle.rules.proofs.Refusals.Refused.{call-says, fresh-says, load-says, place-says, owner-says, owner-at-says, own-entry-says, weight-says}
use Rattle.rules.proofs.Load.EntryBytes.{part-empty}
use Rattle.rules.proofs.Refusals.ReaderRules.{take-says, take-end-says}
use Rattle.rules.proofs.Refusals.BankKept.{call-keeps, fresh-keeps}

pub refusals : Demand1
refusals count rw ro b =
    record {
      one-entry = entry-says;
      media = way-media;
      rw-numbers = rw-numbers;
      ro-numbers = ro-numbers;
      call = call-says count rw ro b;
      fresh = fresh-says count rw ro b;
      load = load-says count rw ro;
      place = place-says count rw ro;
      owner = owner-says count rw ro;
      owner_at = owner-at-says count rw ro;
      own-entry = own-entry-says count rw ro;
      own-part = part-empty count rw ro;
      weight = weight-says count rw ro b;
      reader = take-says count;
      reader-end = take-end-says count;
      call-keeps = call-keeps count rw ro b;
      fresh-keeps = fresh-keeps count rw ro b;
    }
