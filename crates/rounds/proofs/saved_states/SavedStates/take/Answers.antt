use Rattle.std.proofs.Common.{◌∙◌, ap, subst, sym}
use Rattle.rounds.specs.Kept.{IsUnique, controller_of_path, other_paths}
use Rattle.rounds.proofs.Keeping.{none_left, others_unique}
use Rattle.rounds.proofs.saved_states.SavedStates.take.Goals as goal

pub invariant_of-self : goal.invariant_of-self
invariant_of-self c =
    subst IsUnique (sym (ap (λ s. s.entries) c.pop.ensures.entries))
    (others_unique c.args.path.now c.self.inside.of_path.entries c.self.invariant)

pub invariant_of-self-2 : goal.invariant_of-self-2
invariant_of-self-2 c =
    subst IsUnique (sym (ap (λ s. s.entries) c.pop.ensures.entries))
    (others_unique c.args.path.now c.self.inside.of_path.entries c.self.invariant)

pub returns-in_err-saved-clause-gone : goal.returns-in_err-saved-clause-gone
returns-in_err-saved-clause-gone c =
    ap (λ s. controller_of_path c.args.path.now s.entries) c.pop.ensures.entries
    ∙ none_left c.args.path.now c.self.inside.of_path.entries c.self.invariant

pub returns-clause-value : goal.returns-clause-value
returns-clause-value c =
    c.in_ok-saved.ensures.value ∙ ap (controller_of_path c.args.path.now) c.self.view_is

pub returns-clause-others : goal.returns-clause-others
returns-clause-others c =
    ap (λ s. s.entries) c.pop.ensures.entries ∙ ap (other_paths c.args.path.now) c.self.view_is

pub returns-clause-gone : goal.returns-clause-gone
returns-clause-gone c =
    ap (λ s. controller_of_path c.args.path.now s.entries) c.pop.ensures.entries
    ∙ none_left c.args.path.now c.self.inside.of_path.entries c.self.invariant
