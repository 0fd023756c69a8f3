use Rattle.std.proofs.Common.{◌≡◌, ◌∙◌, ◌∷◌, List, None, ap, inl, subst, sym}
use Rattle.std.specs.Prelude.{String, string_bytes}
use Rattle.std.specs.declared.alloc.Global.{Global}
use Rattle.stored_state.specs.declared.any_controller.AnyController.{AnyController}
use Rattle.rounds.specs.Kept.{IsFront, controller_of_path, other_paths}
use Rattle.rounds.proofs.Keeping.{front_more, front_unique, put_first}
use Rattle.rounds.proofs.saved_states.SavedStates.keep.Goals as goal

pub invariant_of-self-2 : goal.invariant_of-self-2
invariant_of-self-2 c =
    let cache = c.self.inside.of_path in
    let none : controller_of_path (string_bytes c.args.path) cache.entries ≡ None = ap (λ t. controller_of_path t cache.entries) (sym c.as_str.ensures.value) ∙ ap (controller_of_path c.as_str.result.now) c.self.view_is ∙ c.take.ensures.gone in
    let first = put_first c.args.path c.args.saved cache c.put.new.self cache.cap none c.in_ok-put.ensures.entries in
    front_unique c.put.new.self.entries ((c.args.path, c.args.saved) ∷ cache.entries) first (none, c.self.invariant)

pub returns : goal.returns
returns c =
    let cache = c.self.inside.of_path in
    let none : controller_of_path (string_bytes c.args.path) cache.entries ≡ None = ap (λ t. controller_of_path t cache.entries) (sym c.as_str.ensures.value) ∙ ap (controller_of_path c.as_str.result.now) c.self.view_is ∙ c.take.ensures.gone in
    let first = put_first c.args.path c.args.saved cache c.put.new.self cache.cap none c.in_ok-put.ensures.entries in
    let rest : cache.entries ≡ other_paths (string_bytes c.args.path) c.args.self.now = c.self.view_is ∙ c.take.ensures.others ∙ ap (λ t. other_paths t c.args.self.now) c.as_str.ensures.value in
    let left = front_more c.make_room.new.self c.put.new.self.entries ((c.args.path, c.args.saved) ∷ cache.entries) c.make_room.ensures first in
    inl (subst (λ (es : List (String Global × AnyController)). IsFront c.make_room.new.self ((c.args.path, c.args.saved) ∷ es)) rest left)
