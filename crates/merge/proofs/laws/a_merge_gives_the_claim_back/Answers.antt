use Rattle.merge.proofs.MergedHolders.{merge_keeps_apart, merged_claim_is_masters}
use Rattle.merge.proofs.MergedHolders.{merge_keeps_others}
use Rattle.merge.proofs.laws.a_merge_gives_the_claim_back.Goals as goal

pub returns-clause-apart : goal.returns-clause-apart
returns-clause-apart c = merge_keeps_apart

pub returns-clause-claimed : goal.returns-clause-claimed
returns-clause-claimed c = merged_claim_is_masters

pub returns-clause-others : goal.returns-clause-others
returns-clause-others c = merge_keeps_others
