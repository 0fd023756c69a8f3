-- The head at the front of an input: whole, within the limits, and what it says.
use Rattle.std.specs.Prelude.{◌≡◌, ℕ, ◌≤◌, ◌==◌, Bool, List, [], length, take, map}
use Rattle.std.specs.Prelude.{Option, None, Result, IfOk, ⊤}
use Rattle.streams.specs.declared.refused.Refused.{Refused}
use Rattle.httparse.specs.Grammar.{RequestHead, ReadsRequest, print_request}
use Rattle.httparse.specs.Grammar.{ResponseHead, ReadsResponse, print_response, status_code}
use Rattle.httparse.specs.Spans.{IsWithin, name_and_value, span_bytes}
use Rattle.http_message.specs.Expect.{expects_continue}
use Rattle.http_message.specs.Fields.{NamedValue}
use Rattle.http_message.specs.Methods.{method_of}
use Rattle.http_message.specs.Says.{body_length}
use Rattle.http_message.specs.declared.kind.Kind.{Kind}
use Rattle.http_message.specs.declared.kind.Kind.TheVariants as kinds
use Rattle.http_message.specs.declared.look.Look.{Look}
use Rattle.http_message.specs.declared.look.Look.TheVariants as looks
use Rattle.http_message.specs.declared.looking.TheConstants.{MAX_HEAD_BYTES, MAX_FIELDS}
use Rattle.http_message.specs.declared.method.Method.{Method}
use Rattle.http_message.specs.declared.methods.Methods.{Methods}
use Rattle.http_message.specs.declared.start.Start.{Start}
use Rattle.http_message.specs.declared.start.Start.TheVariants as starts
use Rattle.http_message.specs.declared.head_says.HeadFacts.{HeadFacts}

-- a head: what its first line tells, the status of a response, the target of a request, its fields,
-- and its length
pub record Head : Type 0 where
  pub start : Start
  pub code : ℕ
  pub target : List ℕ
  pub fields : List NamedValue
  pub size : ℕ

-- what of a request's head counts to a listener that takes these methods, and what of a response's
abbrev pub request_seen : Methods → RequestHead → Head
request_seen methods h =
    record {
      start = starts.Request (method_of methods h.method) (h.minor == 1);
      code = 0;
      target = h.target;
      fields = map name_and_value h.fields;
      size = length (print_request h);
    }

abbrev pub response_seen : ResponseHead → Head
response_seen h =
    record {
      start = starts.Response;
      code = status_code h;
      target = [];
      fields = map name_and_value h.fields;
      size = length (print_response h);
    }

-- the bytes begin with this head, which has no more fields than may be
abbrev pub StartsWith : Kind → List ℕ → Head → Type 0
StartsWith (kinds.Request methods) bytes head =
    (h : RequestHead) × (rest : List ℕ) × ReadsRequest bytes h rest × (length h.fields ≤ MAX_FIELDS)
    × (head ≡ request_seen methods h)
StartsWith kinds.Response bytes head =
    (h : ResponseHead) × (rest : List ℕ) × ReadsResponse bytes h rest
    × (length h.fields ≤ MAX_FIELDS) × (head ≡ response_seen h)

-- they begin with no such head
abbrev pub HasNoStart : Kind → List ℕ → Type 0
HasNoStart kind bytes = (head : Head) → ¬ (StartsWith kind bytes head)

-- the input begins with this head, within the limits
abbrev pub BeginsWith : Kind → List ℕ → Head → Type 0
BeginsWith kind input head = StartsWith kind (take MAX_HEAD_BYTES input) head

-- it begins with none within them
abbrev pub HasNoHead : Kind → List ℕ → Type 0
HasNoHead kind input = (head : Head) → ¬ (BeginsWith kind input head)

-- the length of the body, of so many bytes at most, or the first refusal
abbrev pub head_says : ℕ → Head → Result ℕ Refused
head_says most head = body_length most head.start head.fields

-- the method of a request, if it is taken, and none of a response
abbrev pub start_method : Start → Option Method
start_method (starts.Request method_of wants_host) = method_of
start_method starts.Response = None

abbrev pub head_method : Head → Option Method
head_method head = start_method head.start

-- whether the head asks for the interim response
abbrev pub head_expects : Head → Bool
head_expects head = expects_continue head.start head.fields

-- what is told of a head in these bytes is what the head is
pub record IsToldOf (most : ℕ) (bytes : List ℕ) (head : Head) (told : HeadFacts) : Type 0 where
  pub size : told.size ≡ head.size
  pub code : told.code ≡ head.code
  pub method : told.method ≡ head_method head
  pub target : span_bytes bytes told.target ≡ head.target
  pub says : told.says ≡ head_says most head
  pub expects : told.expects_continue ≡ head_expects head

-- the head and the target lie within the bytes, and the body within the limit
pub record IsBounded (most len : ℕ) (told : HeadFacts) : Type 0 where
  pub size : told.size ≤ len
  pub target : IsWithin len told.target
  pub body : IfOk told.says (λ n. n ≤ most)

-- P of what is told, where there is a head
abbrev pub IfHead : Look → (HeadFacts → Type 0) → Type 0
IfHead (looks.Head told) P = P told
IfHead looks.Part P = ⊤
IfHead looks.Never P = ⊤
