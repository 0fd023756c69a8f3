use Rattle.std.proofs.Common.{◌∙◌, ◌∷◌, ◌++◌, [], ap, sym, if◌then◌else◌, is_some}
use Rattle.std.specs.Map.{keys_of, lookup}
use Rattle.indexmap.proofs.CallerLemmas.{insert_entry-new}
use Rattle.deliveries.proofs.Keys.{none-if, there-position, thing_at-last}
use Rattle.deliveries.specs.Routes.{is_thing}
use Rattle.deliveries.proofs.routes.Routes.intern.Goals as goal

pub returns-in-Some-clause-thing : goal.returns-in-Some-clause-thing
returns-in-Some-clause-thing c =
    rw (← c.self.view_is) (there-position (keys_of c.self.inside.things.entries) c.args.thing.now c.in-Some.item (sym c.get_index_of.ensures.index ∙ c.in-Some.is))

pub returns-clause-thing : goal.returns-clause-thing
returns-clause-thing c =
    let m = c.self.inside.things in
    let none = none-if c.get_index_of.result (lookup (is_thing c.args.thing.now) m.entries) c.get_index_of.ensures.found c.in_default.not-Some in
    let new = c.in_ok-insert.ensures.entries ∙ insert_entry-new is_thing m c.args.thing.now c.args.line none in
    rw (new, c.len-item.ensures.len) (thing_at-last m.entries c.args.thing.now c.args.line)

pub returns-clause-ok : goal.returns-clause-ok
returns-clause-ok c =
    let m = c.self.inside.things in
    let none = none-if c.get_index_of.result (lookup (is_thing c.args.thing.now) m.entries) c.get_index_of.ensures.found c.in_default.not-Some in
    rw (← c.self.view_is) (c.in_ok-insert.ensures.entries ∙ insert_entry-new is_thing m c.args.thing.now c.args.line none
    ∙ sym (ap (λ o. if is_some o then m.entries else m.entries ++ (c.args.thing.now, c.args.line) ∷ []) none))
