use Rattle.std.proofs.Common.{◌∙◌, ap, option_map, string_bytes, sym}
use Rattle.server_steps.proofs.NamedFiles.{master_named, worker_named}
use Rattle.server_steps.proofs.route.named_worker.Goals as goal

pub from_valid-requires : goal.from_valid-requires
from_valid-requires c =
    worker_named c.args.folder.now c.args.worker.now c.args.master.now (string_bytes c.in-Some.path) (ap (option_map (λ path. string_bytes path)) (sym c.in-Some.is) ∙ c.in_ok-file.ensures)

pub from_valid-requires-in-Some : goal.from_valid-requires-in-Some
from_valid-requires-in-Some c =
    master_named c.args.folder.now c.args.worker.now c.args.master.now (string_bytes c.in-Some.path) (ap (option_map (λ path. string_bytes path)) (sym c.in-Some.is) ∙ c.in_ok-file.ensures)
