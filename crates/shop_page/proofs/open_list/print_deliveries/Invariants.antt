use Rattle.shop_page.specs.ListJson.{delivery_data}
use Rattle.json_text.proofs.PrintedLists.{IsSoFar}
use Rattle.shop_page.proofs.open_list.print_deliveries.Given as goal

-- those so far are printed
abbrev pub invariant-loop-one : goal.invariant-loop-one
invariant-loop-one l = IsSoFar (delivery_data l.now) l.works l.one-index l.initial.out l.out
