use Rattle.std.proofs.Common.{◌∙◌, ap, option_map, string_bytes, sym}
use Rattle.server_steps.proofs.NamedFiles.{file_named}
use Rattle.server_steps.proofs.route.named_file.Goals as goal

pub from_valid-requires : goal.from_valid-requires
from_valid-requires c =
    file_named c.args.folder.now c.args.name.now (string_bytes c.in-Some.path) (ap (option_map (λ path. string_bytes path)) (sym c.in-Some.is) ∙ c.in_ok-file.ensures)
