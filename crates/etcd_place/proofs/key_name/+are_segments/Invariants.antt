use Rattle.etcd_place.proofs.key_name.+are_segments.Given as goal

abbrev pub decreases-are_segments : goal.decreases-are_segments
decreases-are_segments l = l.most
