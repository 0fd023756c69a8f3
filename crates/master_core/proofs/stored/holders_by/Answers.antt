use Rattle.master_core.proofs.KeptStored.{if_found}
use Rattle.master_core.proofs.stored.holders_by.Goals as goal

pub returns-clause-valid : goal.returns-clause-valid
returns-clause-valid c = if_found c.of.result c.of.ensures.valid
