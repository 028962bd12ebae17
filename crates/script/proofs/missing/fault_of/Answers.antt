-- `script::missing::fault_of` meets its contract. Assumes nothing.
use Rattle.script.proofs.Telling.{fault_told}
use Rattle.script.proofs.missing.fault_of.Goals as goal

pub returns : goal.returns
returns c =
    fault_told _ _ _ _ _ _ _ _ _ c.unsigned_place.ensures c.missing_form.ensures c.lower.ensures c.lower-2.ensures c.missing_name.ensures c.lower-3.ensures c.told.ensures
