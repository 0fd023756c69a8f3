use Rattle.std.proofs.Common.{◌∙◌, Some, ap, map, subst, sym}
use Rattle.json.proofs.Trees.{view-Array}
use Rattle.json.specs.Value.{value_view}
use Rattle.etcd_wire.specs.Answer.{AreKeyVersions}
use Rattle.etcd_wire.proofs.Listing.{listed_so}
use Rattle.etcd_wire.proofs.listed.listing_in.Goals as goal

pub returns-in-Array-clause-unknown : goal.returns-in-Array-clause-unknown
returns-in-Array-clause-unknown c same ks l =
    c.versions_of.ensures.unknown same ks
    (subst (λ vs. AreKeyVersions (map value_view vs) ks) (sym c.as_slice.ensures.value)
    (listed_so _ (map value_view c.in-Array.pairs.items) ks (sym c.in-Some.ensures ∙ ap (λ v. Some (value_view v)) c.in-Array.is ∙ ap Some (view-Array c.in-Array.pairs)) l))
