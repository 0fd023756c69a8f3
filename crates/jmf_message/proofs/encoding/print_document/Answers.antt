use Rattle.std.proofs.Common.{subst, sym}
use Rattle.jmf_message.specs.Items.{IsOrdered}
use Rattle.jmf_message.proofs.ItemData.{jmf_ordered}
use Rattle.jmf_message.proofs.encoding.print_document.Goals as goal

pub print_item-requires : goal.print_item-requires
print_item-requires c = subst IsOrdered (sym c.in_ok-jmf.ensures.value) (jmf_ordered c.args.message.now)
