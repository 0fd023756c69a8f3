-- Texts in parts.
use Rattle.std.proofs.Common.{◌≡◌, ◌≢◌, ℕ, zero, suc, ◌+◌, ◌-◌, ◌<◌, ◌&&◌, ◌==◌, Bool, true, false, cond, not, List, [], ◌∷◌, drop, length, Option, Some, None, refl, sym, ap, subst, ◌∙◌, arith}
use Rattle.std.specs.Prelude.{codes}
use Rattle.std.specs.List.{after_first, before_first, position_or_len}
use Rattle.std.specs.Str.{IsCharBoundary}
use Rattle.std.specs.Str.Pattern.{FindsTextPrefix}
use Rattle.std.proofs.lemmas.Bool.{lt-ltb, le-ltb}
use Rattle.std.proofs.lemmas.Bool.Decides.{Decides-eqb}
use Rattle.std.proofs.lemmas.List.{drop_all}
use Rattle.std.proofs.lemmas.Str.Pattern.{starts_text}
use Rattle.etcd_place.specs.Folder.{etcd_folder_in, whole_of}
use Rattle.etcd_place.specs.Place.{Named, are_segments, etcd_place_in, has_slash, front_of, rest_of, is_address, is_bracketed_address, is_etcd, is_gateway, is_key_name, is_named_address, is_port, is_port_behind_colon, place_of}
use Rattle.shop_folder.specs.Names.{is_file_name}

-- what stands behind a character that isn't there
after_none : (p : ℕ → Bool) (xs : List ℕ) → position_or_len p xs ≡ length xs → after_first p xs ≡ []
after_none p xs is = ap (λ n. drop (n + 1) xs) is ∙ drop_all (length xs + 1) xs (omega arith)

not_right : (a b : Bool) → b ≡ false → false ≡ (a && b)
not_right true b is = sym is
not_right false b is = refl

-- ---- an address

pub named_none : (text : List ℕ) → position_or_len (λ c. c == 58) text ≡ length text → false ≡ is_named_address text
named_none text is = not_right (not (length (before_first (λ c. c == 58) text) == 0)) _ (ap is_port (after_none (λ c. c == 58) text is))

pub bracketed_none : (text : List ℕ) → position_or_len (λ c. c == 93) text ≡ length text → false ≡ is_bracketed_address text
bracketed_none text is = not_right (not (length (before_first (λ c. c == 93) text) == 0)) _ (ap is_port_behind_colon (after_none (λ c. c == 93) text is))

colon_not : (b : Bool) (c : ℕ) (cs : List ℕ) → (c == 58) ≡ b → ((rest : List ℕ) → c ∷ cs ≢ 58 ∷ rest) → false ≡ (b && is_port cs)
colon_not true c cs is lacks = absurd (lacks cs (ap (λ x. x ∷ cs) ((Decides-eqb c 58).0 is)))
colon_not false c cs is lacks = refl

pub colon_none : (text : List ℕ) → ((rest : List ℕ) → text ≢ 58 ∷ rest) → false ≡ is_port_behind_colon text
colon_none [] lacks = refl
colon_none (c ∷ cs) lacks = colon_not (c == 58) c cs refl lacks

pub colon_some : (text port : List ℕ) → text ≡ 58 ∷ port → is_port port ≡ is_port_behind_colon text
colon_some text port is = sym (ap is_port_behind_colon is)

bracket_not : (b : Bool) (c : ℕ) (cs : List ℕ) → (c == 91) ≡ b → ((rest : List ℕ) → c ∷ cs ≢ 91 ∷ rest) → is_named_address (c ∷ cs) ≡ cond b (is_bracketed_address cs) (is_named_address (c ∷ cs))
bracket_not true c cs is lacks = absurd (lacks cs (ap (λ x. x ∷ cs) ((Decides-eqb c 91).0 is)))
bracket_not false c cs is lacks = refl

pub bracket_none : (text : List ℕ) → ((rest : List ℕ) → text ≢ 91 ∷ rest) → is_named_address text ≡ is_address text
bracket_none [] lacks = refl
bracket_none (c ∷ cs) lacks = bracket_not (c == 91) c cs refl lacks

pub bracket_some : (text rest : List ℕ) → text ≡ 91 ∷ rest → is_bracketed_address rest ≡ is_address text
bracket_some text rest is = sym (ap is_address is)

-- ---- a name

pub slash_none : (text : List ℕ) → position_or_len (λ c. c == 47) text ≡ length text → has_slash text ≡ false
slash_none text is = le-ltb (position_or_len (λ c. c == 47) text) (length text) (omega (arith, is))

pub slash_some : (text : List ℕ) → position_or_len (λ c. c == 47) text < length text → has_slash text ≡ true
slash_some text is = lt-ltb (position_or_len (λ c. c == 47) text) (length text) is

pub segments_last : (most : ℕ) (text : List ℕ) → most ≢ 0 → has_slash text ≡ false → is_file_name text ≡ are_segments most text
segments_last zero text some is = absurd (some refl)
segments_last (suc most) text some is = sym (ap (λ b. cond b (is_file_name (front_of text) && are_segments most (rest_of text)) (is_file_name text)) is)

pub segments_first : (most : ℕ) (text : List ℕ) → most ≢ 0 → has_slash text ≡ true → (is_file_name (front_of text) && are_segments (most - 1) (rest_of text)) ≡ are_segments most text
segments_first zero text some is = absurd (some refl)
segments_first (suc most) text some is =
    let less : suc most - 1 ≡ most = omega arith in
    ap (λ n. is_file_name (front_of text) && are_segments n (rest_of text)) less ∙ sym (ap (λ b. cond b (is_file_name (front_of text) && are_segments most (rest_of text)) (is_file_name text)) is)

pub segments_not : (most : ℕ) (text first : List ℕ) → most ≢ 0 → has_slash text ≡ true → first ≡ front_of text → is_file_name first ≡ false → false ≡ are_segments most text
segments_not most text first some slash is unnamed =
    sym (ap (λ b. b && are_segments (most - 1) (rest_of text)) (ap is_file_name (sym is) ∙ unnamed)) ∙ segments_first most text some slash

-- ---- a place

pub etcd_front : (text rest : List ℕ) (n : ℕ) → FindsTextPrefix (codes "etcd://") text (Some n) → rest ≡ drop n text → (is_etcd text ≡ true) × (rest ≡ drop 7 text)
etcd_front text rest n finds is =
    (sym (starts_text true (codes "etcd://") text (n, finds, subst (λ k. IsCharBoundary text k) (sym finds.0) finds.2)), is ∙ ap (λ k. drop k text) finds.0)

place_behind : (text rest : List ℕ) → is_etcd text ≡ true → rest ≡ drop 7 text → etcd_place_in text ≡ cond (has_slash rest) (place_of (front_of rest) (rest_of rest)) None
place_behind text rest etcd is =
    ap (λ b. cond (b && has_slash (drop 7 text)) (place_of (front_of (drop 7 text)) (rest_of (drop 7 text))) None) etcd
    ∙ ap (λ r. cond (has_slash r) (place_of (front_of r) (rest_of r)) None) (sym is)

pub place_none : (text rest : List ℕ) → (is_etcd text ≡ true) × (rest ≡ drop 7 text) → position_or_len (λ c. c == 47) rest ≡ length rest → None ≡ etcd_place_in text
place_none text rest front none =
    sym (place_behind text rest front.0 front.1 ∙ ap (λ b. cond b (place_of (front_of rest) (rest_of rest)) None) (slash_none rest none))

pub place_some : (text rest gateway name : List ℕ) → (is_etcd text ≡ true) × (rest ≡ drop 7 text) → (position_or_len (λ c. c == 47) rest < length rest) × (gateway ≡ front_of rest) × (name ≡ rest_of rest) → place_of gateway name ≡ etcd_place_in text
place_some text rest gateway name front parts =
    ap (λ g. place_of g name) parts.1 ∙ ap (λ n. place_of (front_of rest) n) parts.2
    ∙ sym (place_behind text rest front.0 front.1 ∙ ap (λ b. cond b (place_of (front_of rest) (rest_of rest)) None) (slash_some rest parts.0))

named_by : List ℕ → List ℕ → Bool → Option Named
named_by gateway name b = cond b (Some (record { gateway = gateway; name = name })) None

pub place_is : (gateway name : List ℕ) → is_gateway gateway ≡ true → is_key_name name ≡ true → Some (record { gateway = gateway; name = name }) ≡ place_of gateway name
unfolding named_by
place_is gateway name first second = sym (ap (λ b. named_by gateway name (b && is_key_name name)) first ∙ ap (named_by gateway name) second)

pub place_not : (gateway name : List ℕ) → (is_gateway gateway && is_key_name name) ≡ false → None ≡ place_of gateway name
unfolding named_by
place_not gateway name none = sym (ap (named_by gateway name) none)

-- ---- a folder

folder_behind : (text rest : List ℕ) → is_etcd text ≡ true → rest ≡ drop 7 text → etcd_folder_in text ≡ cond (has_slash rest) (place_of (front_of rest) (rest_of rest)) (whole_of rest)
folder_behind text rest etcd is =
    ap (λ b. cond b (cond (has_slash (drop 7 text)) (place_of (front_of (drop 7 text)) (rest_of (drop 7 text))) (whole_of (drop 7 text))) None) etcd
    ∙ ap (λ r. cond (has_slash r) (place_of (front_of r) (rest_of r)) (whole_of r)) (sym is)

pub folder_whole : (text rest : List ℕ) → (is_etcd text ≡ true) × (rest ≡ drop 7 text) → position_or_len (λ c. c == 47) rest ≡ length rest → whole_of rest ≡ etcd_folder_in text
folder_whole text rest front none =
    sym (folder_behind text rest front.0 front.1 ∙ ap (λ b. cond b (place_of (front_of rest) (rest_of rest)) (whole_of rest)) (slash_none rest none))

pub folder_some : (text rest gateway name : List ℕ) → (is_etcd text ≡ true) × (rest ≡ drop 7 text) → (position_or_len (λ c. c == 47) rest < length rest) × (gateway ≡ front_of rest) × (name ≡ rest_of rest) → place_of gateway name ≡ etcd_folder_in text
folder_some text rest gateway name front parts =
    ap (λ g. place_of g name) parts.1 ∙ ap (λ n. place_of (front_of rest) n) parts.2
    ∙ sym (folder_behind text rest front.0 front.1 ∙ ap (λ b. cond b (place_of (front_of rest) (rest_of rest)) (whole_of rest)) (slash_some rest parts.0))
