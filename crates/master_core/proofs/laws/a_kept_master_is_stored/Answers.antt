use Rattle.master_core.proofs.KeptStored.{a_kept_master_is_stored}
use Rattle.master_core.proofs.laws.a_kept_master_is_stored.Goals as goal

pub returns : goal.returns
returns c = a_kept_master_is_stored
