-- What is asked of etcd's gateway, as a whole request.
use Rattle.std.specs.Prelude.{ℕ, List, codes}
use Rattle.http_message.specs.Texts.{request_to}
use Rattle.etcd_wire.specs.Request.{compaction, listing, range, swap, text_of, touch}

-- ---- by the gateway and the key

abbrev pub range_asked : List ℕ → List ℕ → List ℕ
range_asked gateway key = request_to gateway (codes "/v3/kv/range") (text_of (range key))

abbrev pub listing_asked : List ℕ → List ℕ → List ℕ
listing_asked gateway folder =
    request_to gateway (codes "/v3/kv/range") (text_of (listing folder))

abbrev pub swap_asked : List ℕ → List ℕ → ℕ → List ℕ → List ℕ
swap_asked gateway key revision bytes =
    request_to gateway (codes "/v3/kv/txn") (text_of (swap key revision bytes))

abbrev pub touch_asked : List ℕ → List ℕ → ℕ → List ℕ
touch_asked gateway key revision =
    request_to gateway (codes "/v3/kv/txn") (text_of (touch key revision))

-- ---- by the gateway alone

abbrev pub compaction_asked : List ℕ → ℕ → List ℕ
compaction_asked gateway revision =
    request_to gateway (codes "/v3/kv/compaction") (text_of (compaction revision))
