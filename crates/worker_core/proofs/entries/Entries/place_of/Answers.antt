use Rattle.std.proofs.Common.{◌∙◌, ap}
use Rattle.std.specs.List.{position}
use Rattle.worker_core.specs.Worker.{is_of}
use Rattle.worker_core.proofs.entries.Entries.place_of.Goals as goal

pub returns : goal.returns
returns c =
    let s = c.args.spawn in
    c.copied.ensures ∙ c.get.ensures.value ∙ c.self.invariant.places s ∙ ap (position (is_of s)) c.self.view_is
