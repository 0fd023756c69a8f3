use Rattle.std.proofs.Common.{◌∙◌, [], ◌∷◌, IfSome, Some, ap, refl, subst}
use Rattle.keepers.proofs.CutSaves.{cut_so}
use Rattle.keepers.specs.Cut.{CutView}
use Rattle.keepers.specs.InFile.{InFile}
use Rattle.keepers.specs.InMemory.{InMemory, IsFrom}
use Rattle.keepers.specs.Keeper.{CountRose}
use Rattle.keepers.proofs.cut_keep.CutKeepKeep.save.Goals as goal

pub returns-in-Err-clause-cut : goal.returns-in-Err-clause-cut
returns-in-Err-clause-cut c =
    let began = ap (λ (k : InFile InMemory). k.disk.left) c.over-keep.ensures ∙ c.in_ok-disk.ensures.left ∙ ap (λ b. Some b ∷ []) (c.in_ok-old.ensures.items ∙ c.as_slice.ensures.value ∙ ap (λ (v : CutView). v.held) c.self.view_is) in
    let settled = ap (λ (k : InFile InMemory). k.disk.settled) c.over-keep.ensures ∙ c.in_ok-disk.ensures.settled in
    let among = subst (λ l. IfSome c.left_at.result (λ b. IsFrom l 0 (Some b.items))) (c.into_left.ensures ∙ ap (λ (d : InMemory). d.left) c.into_disk.ensures) c.left_at.ensures in
    λ _. record {
      either = cut_so c.over-keep.result.disk c.save.new.self.disk c.args.self.now.held c.args.bytes.now c.fail.new.self.held c.left_at.result began settled (c.save.ensures.any_moment refl).each among (λ none. c.fail.ensures.none none ∙ ap (λ (v : CutView). v.held) c.next_cut-cut.ensures) c.fail.ensures.some;
      raised = subst (λ n. CountRose n c.fail.new.self.count) (ap (λ (v : CutView). v.count) c.next_cut-cut.ensures) c.fail.ensures.raised;
    }
