use Rattle.std.proofs.Common.{◌∙◌}
use Rattle.master_core.proofs.RecordPlaces.{got_there, record_there}
use Rattle.master_core.proofs.records.record_of.Goals as goal

pub returns : goal.returns
returns c =
    let xs = c.args.records.now in
    got_there xs c.place_of.result c.get.result c.get.ensures.lookup.0 c.get.ensures.lookup.1 ∙ record_there xs c.place_of.result c.args.spawn c.requires c.place_of.ensures
