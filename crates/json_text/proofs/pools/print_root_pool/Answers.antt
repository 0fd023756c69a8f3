use Rattle.std.proofs.Common.{◌≡◌, ℕ, List, codes}
use Rattle.json.specs.Written.{Written}
use Rattle.ticket_items.specs.declared.resource.Resource.{Resource}
use Rattle.json_items.specs.Resources.{all_showing, raw_data}
use Rattle.json_items.specs.Shown.{nothing_shown, shown_rw, shown_ro}
use Rattle.json_items.specs.declared.resources.shown_form.Showing.{Showing}
use Rattle.json_text.specs.PartWritten.{copies_pool, root_pool}
use Rattle.json_text.specs.Printed.{AreItemsPrinted}
use Rattle.json_text.proofs.ItemLaws.{items_joined, showing_as, under_name}
use Rattle.json_text.proofs.MemberLaws.{on_ok}
use Rattle.json_text.proofs.PrintedLists.{list_printed}
use Rattle.json_text.proofs.pools.print_root_pool.Goals as goal

-- its own resources, then the copies
all_printed : (spawn : List ℕ) (own changes reads : List Resource) (nothing rw ro : Showing) (xs ys : List Resource) (start first second third : Written) → nothing ≡ nothing_shown → rw ≡ shown_rw spawn → ro ≡ shown_ro spawn → xs ≡ changes → ys ≡ reads
    → AreItemsPrinted raw_data (all_showing nothing own) start first → AreItemsPrinted raw_data (all_showing rw xs) first second → AreItemsPrinted raw_data (all_showing ro ys) second third → AreItemsPrinted raw_data (root_pool spawn own changes reads) start third
all_printed spawn own changes reads nothing rw ro xs ys start first second third bare write read left right p q r =
    items_joined raw_data (all_showing nothing_shown own) (copies_pool spawn changes reads) start first third (showing_as nothing nothing_shown own own start first bare (λ i. own) p)
    (items_joined raw_data (all_showing (shown_rw spawn) changes) (all_showing (shown_ro spawn) reads) first second third (showing_as rw (shown_rw spawn) xs changes first second write left q) (showing_as ro (shown_ro spawn) ys reads second third read right r))

pub returns-clause-printed : goal.returns-clause-printed
returns-clause-printed c =
    let p = c.args.part.now in
    let start = c.begin_array.new.self in
    let third = c.print_each-3.new.out in
    let pool = all_printed c.args.spawn.now c.args.resources.now p.rw p.ro _ _ _ _ _ start c.print_each.new.out c.print_each-2.new.out third c.nothing.ensures c.in_ok-rw.ensures c.in_ok-ro.ensures c.rw.ensures c.ro.ensures
    c.in_ok-print_each.ensures.printed c.in_ok-print_each-2.ensures.printed c.in_ok-print_each-3.ensures.printed in
    under_name (codes "ResourcePool") raw_data (root_pool c.args.spawn.now c.args.resources.now p.rw p.ro) c.end_array.result c.args.out.now c.key.new.self start third c.end_array.new.self (record { tokens = c.in_ok-key.ensures.ok; before = c.key.ensures.room.0 }) c.in_ok-begin_array.ensures.ok c.begin_array.ensures.room.0 pool c.end_array.ensures

pub returns-clause-again : goal.returns-clause-again
returns-clause-again c =
    let p = c.args.part.now in
    let start = c.begin_array.new.self in
    let third = c.print_each-3.new.out in
    let pool = all_printed c.args.spawn.now c.args.resources.now p.rw p.ro _ _ _ _ _ start c.print_each.new.out c.print_each-2.new.out third c.nothing.ensures c.in_ok-rw.ensures c.in_ok-ro.ensures c.rw.ensures c.ro.ensures
    c.in_ok-print_each.ensures.printed c.in_ok-print_each-2.ensures.printed c.in_ok-print_each-3.ensures.printed in
    on_ok c.end_array.result (list_printed raw_data (root_pool c.args.spawn.now c.args.resources.now p.rw p.ro) c.end_array.result c.key.new.self start third c.end_array.new.self c.in_ok-begin_array.ensures.ok c.begin_array.ensures.room.0 pool c.end_array.ensures) (λ list. list.again)
