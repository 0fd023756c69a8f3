use Rattle.shop_folder.proofs.FilesFound.{name_more}
use Rattle.shop_folder.proofs.files.push_name.Goals as goal

pub returns : goal.returns
returns c =
    name_more c.args.names.now.items c.push.new.self.items c.in_ok-from_str.field-0 c.args.name.now c.requires.others c.requires.name c.in_ok-from_str.ensures.ok c.in_ok-push.ensures.items
