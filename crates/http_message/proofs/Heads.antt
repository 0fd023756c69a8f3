-- Heads at the front of an input.
use Rattle.std.proofs.Common.{◌≡◌, ℕ, ◌+◌, ◌-◌, ◌<◌, ◌≤◌, List, [], ◌++◌, length, take, map, refl, ap, ◌∙◌, sym, subst, arith, ⊎_elim, length-append, length-take, drop, Bool, false, Result, Ok}
use Rattle.std.specs.Prelude.{◌==◌, Option, None}
use Rattle.streams.specs.declared.refused.Refused.{Refused}
use Rattle.httparse.specs.Outcome.{IfComplete}
use Rattle.httparse.specs.declared.Error.{Error}
use Rattle.httparse.specs.declared.Status.{Status}
use Rattle.httparse.specs.declared.Status.TheVariants.{Complete}
use Rattle.std.proofs.lemmas.List.{take_all, take-append-le, take-append-drop, drop-append-le, length-drop, append-nil, length-map}
use Rattle.std.proofs.lemmas.Bool.{cases_lt}
use Rattle.std.proofs.Math.Seq.{take-append-add, take-append_seam}
use Rattle.httparse.specs.declared.spans.HeaderSpan.{HeaderSpan}
use Rattle.httparse.specs.declared.spans.Span.{Span}
use Rattle.httparse.specs.declared.spans.RequestSpans.{RequestSpans}
use Rattle.httparse.specs.declared.spans.ResponseSpans.{ResponseSpans}
use Rattle.httparse.specs.Grammar.{Field, print_request, print_response}
use Rattle.httparse.proofs.GrammarLemmas.{ReadsRequest-append, ReadsResponse-append, request_unique, response_unique}
use Rattle.httparse.specs.Spans.{IsWithin, IsSectionWithin, IsRequestWithin, IsResponseWithin, IsRequestOf, IsResponseOf, AreFieldsAt, span_bytes, header_bytes, name_and_value}
use Rattle.http_message.specs.Head.{Head, StartsWith, BeginsWith, HasNoStart, HasNoHead, IsToldOf, request_seen, response_seen}
use Rattle.http_message.specs.Fields.{Summary, lone_value, summary, values_of}
use Rattle.http_message.specs.Message.{HasLone}
use Rattle.http_message.specs.Methods.{method_of}
use Rattle.http_message.specs.Says.{body_length}
use Rattle.http_message.specs.declared.method.Method.{Method}
use Rattle.http_message.specs.declared.methods.Methods.{Methods}
use Rattle.http_message.specs.Expect.{expects_continue}
use Rattle.http_message.specs.declared.head_says.HeadFacts.{HeadFacts}
use Rattle.http_message.specs.declared.start.Start.TheVariants as starts
use Rattle.http_message.specs.declared.kind.Kind.{Kind}
use Rattle.http_message.specs.declared.kind.Kind.TheVariants as kinds

-- ---- what is looked at

pub few_taken : (m : ℕ) (bytes : List ℕ) → length bytes < m → take m bytes ≡ bytes
few_taken m bytes short = take_all m bytes (omega arith)

few_and_more : (m : ℕ) (bytes more : List ℕ) → length bytes < m
    → take m (bytes ++ more) ≡ bytes ++ take (m - length bytes) more
few_and_more m bytes more short =
    let is : m ≡ length bytes + (m - length bytes) = omega arith in
    ap (λ n. take n (bytes ++ more)) is ∙ take-append-add bytes more (m - length bytes)

-- no head in the few bytes there are
pub none_in_few : (kind : Kind) (bytes : List ℕ) → length bytes < 8192 → HasNoStart kind bytes → HasNoHead kind bytes
none_in_few kind bytes short none head begins =
    none head (subst (λ (b : List ℕ). StartsWith kind b head) (few_taken 8192 bytes short) begins)

-- and none whatever follows
pub none_after_few : (kind : Kind) (bytes : List ℕ) → length bytes < 8192
    → ((more : List ℕ) → HasNoStart kind (bytes ++ more)) → (more : List ℕ) → HasNoHead kind (bytes ++ more)
none_after_few kind bytes short none more head begins =
    none (take (8192 - length bytes) more) head
    (subst (λ (b : List ℕ). StartsWith kind b head) (few_and_more 8192 bytes more short) begins)

-- no head within the limit, whatever follows
pub none_after_many : (kind : Kind) (bytes : List ℕ) → 8192 ≤ length bytes
    → HasNoStart kind (take 8192 bytes) → (more : List ℕ) → HasNoHead kind (bytes ++ more)
none_after_many kind bytes long none more head begins =
    none head (subst (λ (b : List ℕ). StartsWith kind b head) (take-append-le 8192 bytes more long) begins)

-- what has no head whatever follows has none
pub none_at_all : (kind : Kind) (bytes : List ℕ) → ((more : List ℕ) → HasNoStart kind (bytes ++ more)) → HasNoStart kind bytes
none_at_all kind bytes none head begins =
    none [] head (subst (λ (b : List ℕ). StartsWith kind b head) (sym (append-nil bytes)) begins)

-- ---- what is told of a head

few_fields : (bytes : List ℕ) (spans : List HeaderSpan) (len count : ℕ) (fields : List Field)
    → length spans ≡ 64 → IsSectionWithin bytes spans len count
    → AreFieldsAt bytes spans count fields → length fields ≤ 64
few_fields bytes spans len count fields room within are =
    let same : length (map (header_bytes bytes) (take count spans)) ≡ length (map name_and_value fields) = ap length are in
    omega (arith, same, within.count_fits, length-map (take count spans) (header_bytes bytes), length-map fields name_and_value, length-take count spans)

-- the answer of a parse that is complete
complete_at : {A : Type 0} (s : Status A) (a : A) (P : A → Type 0) → s ≡ Complete a
    → IfComplete {E = Error} (Ok s) P → P a
complete_at s a P is holds = subst (λ s. IfComplete {E = Error} (Ok s) P) is holds

pub whole_response : (most : ℕ) (bytes : List ℕ) (spans : List HeaderSpan) (s : Status ResponseSpans) (r : ResponseSpans)
    (told : Result ℕ Refused)
    → s ≡ Complete r → length spans ≡ 64
    → IfComplete {E = Error} (Ok s) (IsResponseWithin bytes spans)
    → IfComplete {E = Error} (Ok s) (IsResponseOf bytes spans)
    → told ≡ body_length most starts.Response (map (header_bytes bytes) (take r.headers spans))
    → (head : Head) × StartsWith kinds.Response bytes head
    × IsToldOf most bytes head (record { size = r.len; code = r.code; method = None; target = record { start = 0; end = 0 }; says = told; expects_continue = false })
whole_response most bytes spans s r told is room within complete says =
    let in_bytes = complete_at s r (IsResponseWithin bytes spans) is within in
    let of = complete_at s r (IsResponseOf bytes spans) is complete in (
      response_seen of.0,
      (of.0, drop r.len bytes, of.1.reads, few_fields bytes spans r.len r.headers of.0.fields room in_bytes.section of.1.fields, refl),
      record { size = of.1.len; code = of.1.code; method = refl; target = refl; says = says ∙ ap (λ fs. body_length most starts.Response fs) of.1.fields; expects = refl },
    )

pub whole_request : (methods : Methods) (most : ℕ) (bytes : List ℕ) (spans : List HeaderSpan) (s : Status RequestSpans)
    (r : RequestSpans) (name : List ℕ) (method : Option Method) (told : Result ℕ Refused) (expects : Bool)
    → s ≡ Complete r → length spans ≡ 64
    → IfComplete {E = Error} (Ok s) (IsRequestWithin bytes spans)
    → IfComplete {E = Error} (Ok s) (IsRequestOf bytes spans)
    → name ≡ span_bytes bytes r.method → method ≡ method_of methods name
    → told ≡ body_length most (starts.Request method (r.version == 1)) (map (header_bytes bytes) (take r.headers spans))
    → expects ≡ expects_continue (starts.Request method (r.version == 1)) (map (header_bytes bytes) (take r.headers spans))
    → (head : Head) × StartsWith (kinds.Request methods) bytes head
    × IsToldOf most bytes head (record { size = r.len; code = 0; method = method; target = r.path; says = told; expects_continue = expects })
whole_request methods most bytes spans s r name method told expects is room within complete of_name of_method says asks =
    let in_bytes = complete_at s r (IsRequestWithin bytes spans) is within in
    let of = complete_at s r (IsRequestOf bytes spans) is complete in
    let asked : method ≡ method_of methods of.0.method = of_method ∙ ap (method_of methods) (of_name ∙ of.1.method) in
    let wants : (r.version == 1) ≡ (of.0.minor == 1) = ap (λ v. v == 1) of.1.version in (
      request_seen methods of.0,
      (of.0, drop r.len bytes, of.1.reads, few_fields bytes spans r.len r.headers of.0.fields room in_bytes.section of.1.fields, refl),
      record {
        size = of.1.len;
        code = refl;
        method = asked;
        target = of.1.path;
        says = says ∙ (λ i. body_length most (starts.Request (asked i) (wants i)) (of.1.fields i));
        expects = asks ∙ (λ i. expects_continue (starts.Request (asked i) (wants i)) (of.1.fields i));
      },
    )

-- ---- where it stands

-- what stands in the front stands there in the whole
pub within_front : (front behind : List ℕ) (s : Span) → IsWithin (length front) s
    → span_bytes (front ++ behind) s ≡ span_bytes front s
within_front front behind s within =
    let low : s.start ≤ length front = omega (arith, within.0, within.1) in
    let room : s.end - s.start ≤ length (drop s.start front) = omega (arith, within.1, length-drop s.start front) in
    ap (λ xs. take (s.end - s.start) xs) (drop-append-le s.start front behind low)
    ∙ take-append-le (s.end - s.start) (drop s.start front) behind room

-- what is told of a head in the front is told of it in the whole
pub told_in_front : (most m : ℕ) (bytes : List ℕ) (head : Head) (told : HeadFacts) → IsWithin (length (take m bytes)) told.target
    → IsToldOf most (take m bytes) head told → IsToldOf most bytes head told
told_in_front most m bytes head told within of =
    record {
      size = of.size;
      code = of.code;
      method = of.method;
      target = ap (λ xs. span_bytes xs told.target) (sym (take-append-drop m bytes))
          ∙ within_front (take m bytes) (drop m bytes) told.target within ∙ of.target;
      says = of.says;
      expects = of.expects;
    }

-- ---- whatever follows

starts_more : (kind : Kind) (bytes more : List ℕ) (head : Head) → StartsWith kind bytes head → StartsWith kind (bytes ++ more) head
starts_more (kinds.Request methods) bytes more head s = (s.0, s.1 ++ more, ReadsRequest-append bytes s.0 s.1 more s.2, s.3, s.4)
starts_more kinds.Response bytes more head s = (s.0, s.1 ++ more, ReadsResponse-append bytes s.0 s.1 more s.2, s.3, s.4)

starts_once : (kind : Kind) (bytes : List ℕ) (a b : Head) → StartsWith kind bytes a → StartsWith kind bytes b → a ≡ b
starts_once (kinds.Request methods) bytes a b s t = s.4 ∙ ap (request_seen methods) (request_unique bytes s.0 t.0 s.1 t.1 s.2 t.2).0 ∙ sym t.4
starts_once kinds.Response bytes a b s t = s.4 ∙ ap response_seen (response_unique bytes s.0 t.0 s.1 t.1 s.2 t.2).0 ∙ sym t.4

-- what stands within the limit stands there whatever follows
pub front_more : (m : ℕ) (bytes more : List ℕ) → (behind : List ℕ) × (take m (bytes ++ more) ≡ take m bytes ++ behind)
front_more m bytes more =
    ⊎_elim
    (λ few. (take (m - length bytes) more, few_and_more m bytes more few ∙ ap (λ b. b ++ take (m - length bytes) more) (sym (few_taken m bytes few))))
    (λ many. ([], take-append-le m bytes more many ∙ sym (append-nil (take m bytes))))
    (cases_lt (length bytes) m)

pub begins_more : (kind : Kind) (bytes more : List ℕ) (head : Head) → BeginsWith kind bytes head → BeginsWith kind (bytes ++ more) head
begins_more kind bytes more head begins =
    let front = front_more 8192 bytes more in
    subst (λ (b : List ℕ). StartsWith kind b head) (sym front.1) (starts_more kind (take 8192 bytes) front.0 head begins)

-- an input begins with one head at most
pub begins_once : (kind : Kind) (input : List ℕ) (a b : Head) → BeginsWith kind input a → BeginsWith kind input b → a ≡ b
begins_once kind input a b = starts_once kind (take 8192 input) a b

-- ---- the bytes of a head

front_of : (bytes text rest : List ℕ) → take 8192 bytes ≡ text ++ rest → take (length text) bytes ≡ text ++ []
front_of bytes text rest is =
    ap (λ b. take (length text) b) (sym (take-append-drop 8192 bytes))
    ∙ take-append-le (length text) (take 8192 bytes) (drop 8192 bytes) (omega (arith, ap length is, length-append text rest))
    ∙ ap (λ b. take (length text) b) is ∙ take-append_seam text rest ∙ sym (append-nil text)

-- they begin with it by themselves
pub head_alone : (kind : Kind) (bytes : List ℕ) (head : Head) → BeginsWith kind bytes head → StartsWith kind (take head.size bytes) head
head_alone (kinds.Request methods) bytes head s = (
  s.0,
  [],
  (s.2.0, ap (λ h. take h.size bytes) s.4 ∙ front_of bytes (print_request s.0) s.1 s.2.1),
  s.3,
  s.4,
)
head_alone kinds.Response bytes head s = (
  s.0,
  [],
  (s.2.0, ap (λ h. take h.size bytes) s.4 ∙ front_of bytes (print_response s.0) s.1 s.2.1),
  s.3,
  s.4,
)

-- ---- a field that stands alone

pub lone_there : (bytes name : List ℕ) (spans : List HeaderSpan) (s : Status RequestSpans) (r : RequestSpans) (named : Summary)
    (value : Option (List ℕ)) → s ≡ Complete r → length spans ≡ 64
    → IfComplete {E = Error} (Ok s) (IsRequestWithin bytes spans)
    → IfComplete {E = Error} (Ok s) (IsRequestOf bytes spans)
    → named ≡ summary (values_of name (map (header_bytes bytes) (take r.headers spans)))
    → value ≡ lone_value named → HasLone bytes name value
lone_there bytes name spans s r named value is room within complete of_named of_value =
    let in_bytes = complete_at s r (IsRequestWithin bytes spans) is within in
    let of = complete_at s r (IsRequestOf bytes spans) is complete in
    record {
      alone = λ methods head starts. of_value ∙ ap lone_value of_named
          ∙ ap (λ fs. lone_value (summary (values_of name fs)))
          (of.1.fields ∙ ap (λ h. map name_and_value h.fields) (request_unique bytes of.0 starts.0 (drop r.len bytes) starts.1 of.1.reads starts.2).0
          ∙ ap (λ h. h.fields) (sym starts.4));
      none = λ methods none. absurd (none (request_seen methods of.0)
          (of.0, drop r.len bytes, of.1.reads, few_fields bytes spans r.len r.headers of.0.fields room in_bytes.section of.1.fields, refl));
    }
