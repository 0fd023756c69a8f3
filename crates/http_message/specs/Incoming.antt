-- A message in the making: what is known of an input of which a front has come.
use Rattle.std.specs.Prelude.{◌≡◌, ◌⊎◌, ℕ, ◌<◌, ◌≤◌, ◌+◌, ◌==◌, nat_le, Bool, true, false, not}
use Rattle.std.specs.Prelude.{◌&&◌, ◌||◌, List, [], ◌++◌, length, slice_range, take, Option, Result}
use Rattle.std.specs.Prelude.{Ok, Err, if◌then◌else◌}
use Rattle.std.specs.Io.KnownBytes.{Consumes, IsAtEnd}
use Rattle.std.specs.IoError.{error_kind}
use Rattle.std.specs.List.{count_by, list_all, list_any}
use Rattle.std.specs.declared.io.Error.{Error}
use Rattle.std.specs.declared.io.ErrorKind.{ErrorKind}
use Rattle.std.specs.declared.io.ErrorKind.TheVariants as kinds
use Rattle.httparse.specs.Spans.{IsWithin, span_bytes}
use Rattle.streams.specs.Counts.{Counts, CountsRead}
use Rattle.streams.specs.declared.refused.Refused.{Refused}
use Rattle.http_message.specs.Head.{Head, BeginsWith, HasNoHead, IsToldOf, IsBounded}
use Rattle.http_message.specs.Head.{head_expects, head_says}
use Rattle.http_message.specs.Message.{CarriesWithin, HasHead, HasMethod, HasTarget}
use Rattle.http_message.specs.Message.{IsRefusedWithin}
use Rattle.http_message.specs.Message.{is_refusal}
use Rattle.http_message.specs.declared.arrival.Arrival.{Arrival}
use Rattle.http_message.specs.declared.arrival.Arrival.TheVariants as arrivals
use Rattle.http_message.specs.declared.kind.Kind.{Kind}
use Rattle.http_message.specs.declared.look.Look.{Look}
use Rattle.http_message.specs.declared.look.Look.TheVariants as looks
use Rattle.http_message.specs.declared.looking.TheConstants.{MAX_HEAD_BYTES}
use Rattle.http_message.specs.declared.method.Method.{Method}
use Rattle.http_message.specs.declared.standing.Standing.{Standing}
use Rattle.http_message.specs.declared.standing.Standing.TheVariants as standings
use Rattle.http_message.specs.declared.head_says.HeadFacts.{HeadFacts}
use Rattle.http_message.specs.declared.wanted.Need.{Need}
use Rattle.http_message.specs.declared.whole.WholeMessage.{WholeMessage}

-- the kind of the message, the most bytes that its body may have, what of the input has come, and
-- how often a head was looked for in it
pub record IncomingView : Type 0 where
  pub kind : Kind
  pub most : ℕ
  pub bytes : List ℕ
  pub looks : ℕ

abbrev pub is_line_feed : ℕ → Bool
is_line_feed c = c == 10

-- how many line feeds there are
abbrev pub line_feeds : List ℕ → ℕ
line_feeds bytes = count_by is_line_feed bytes

-- P of each input that begins with these bytes
abbrev pub Always : List ℕ → (List ℕ → Type 0) → Type 0
Always bytes P = (more : List ℕ) → P (bytes ++ more)

-- ---- where it stands

-- there is no head yet, and one may have so many bytes more
pub record WantsHead (kind : Kind) (bytes : List ℕ) (w : Need) : Type 0 where
  pub none : HasNoHead kind bytes
  pub room : length bytes + w.room ≡ MAX_HEAD_BYTES
  pub quiet : w.expects_continue ≡ false

-- there is a head, so many bytes are missing of the body that it tells of, and the interim response
-- is asked for or not
pub record WantsBody (most : ℕ) (kind : Kind) (bytes : List ℕ) (w : Need) : Type 0 where
  pub head : Head
  pub begins : BeginsWith kind bytes head
  pub body : ℕ
  pub says : head_says most head ≡ Ok body
  pub room : length bytes + w.room ≡ head.size + body
  pub expects : w.expects_continue ≡ head_expects head

-- more is wanted: were the input to end here, it would be refused as this
pub record IsWanted (most : ℕ) (kind : Kind) (bytes : List ℕ) (w : Need) : Type 0 where
  pub refusal : is_refusal w.refused ≡ true
  pub ended : IsRefusedWithin most kind bytes w.refused
  pub some : 0 < w.room
  pub more : WantsHead kind bytes w ⊎ WantsBody most kind bytes w

-- the input is refused as this, whatever follows
pub record IsLost (most : ℕ) (kind : Kind) (bytes : List ℕ) (e : Refused) : Type 0 where
  pub refusal : is_refusal e ≡ true
  pub always : Always bytes (λ all. IsRefusedWithin most kind all e)

-- the input carries this message, whatever follows
pub record Says
    (most : ℕ) (kind : Kind) (bytes : List ℕ) (status : ℕ) (method : Option Method)
    (head target body : List ℕ)
    : Type 0 where
  pub carries : Always bytes (λ all. CarriesWithin most kind all status body)
  pub asked : Always bytes (λ all. HasMethod kind all method)
  pub headed : Always bytes (λ all. HasHead kind all head)
  pub targeted : Always bytes (λ all. HasTarget kind all target)

-- the input carries the message whose parts stand there
pub record IsWhole (most : ℕ) (kind : Kind) (bytes : List ℕ) (w : WholeMessage) : Type 0 where
  pub target : IsWithin (length bytes) w.target
  pub ordered : w.start ≤ w.end
  pub within : w.end ≤ length bytes
  pub says : Says most kind bytes w.status w.method (take w.start bytes)
      (span_bytes bytes w.target) (slice_range bytes w.start w.end)

abbrev pub Stands : ℕ → Kind → List ℕ → Standing → Type 0
Stands most kind bytes (standings.Wanted w) = IsWanted most kind bytes w
Stands most kind bytes (standings.Refused e) = IsLost most kind bytes e
Stands most kind bytes (standings.Whole w) = IsWhole most kind bytes w

-- ---- what is kept

-- the bytes begin with a head, of which this is told
pub record IsHeadOf (most : ℕ) (kind : Kind) (bytes : List ℕ) (told : HeadFacts) : Type 0 where
  pub head : Head
  pub begins : BeginsWith kind bytes head
  pub told_of : IsToldOf most bytes head told
  pub bounded : IsBounded most (length bytes) told

-- the bytes begin with no head yet
pub record IsPart (kind : Kind) (bytes : List ℕ) : Type 0 where
  pub none : HasNoHead kind bytes
  pub short : length bytes < MAX_HEAD_BYTES

-- what was found of a head is so
abbrev pub IsFound : ℕ → Kind → List ℕ → Look → Type 0
IsFound most kind bytes (looks.Head told) = IsHeadOf most kind bytes told
IsFound most kind bytes looks.Part = IsPart kind bytes
IsFound most kind bytes looks.Never = Always bytes (HasNoHead kind)

-- whether a head may still come
abbrev pub is_part : Look → Bool
is_part (looks.Head told) = false
is_part looks.Part = true
is_part looks.Never = false

-- the look that found a head, or that there is none
abbrev pub last_look : Look → ℕ
last_look found = if is_part found then 0 else 1

-- a line ends in the piece
abbrev pub ends_line : List ℕ → Bool
ends_line piece = list_any is_line_feed piece

-- the bytes are of empty lines alone, which may stand before a head
abbrev pub is_blank : List ℕ → Bool
is_blank bytes = list_all (λ c. (c == 10) || (c == 13)) bytes

-- a head is looked for in the bytes, of which the piece came last
abbrev pub wants_look : Look → List ℕ → List ℕ → Bool
wants_look found bytes piece =
    is_part found
    && ((ends_line piece && not (is_blank bytes)) || nat_le MAX_HEAD_BYTES (length bytes))

-- what always holds: what was found is so, and a head was looked for at most once for each line
-- feed before it was known whether there is one
pub record IsComing (most : ℕ) (kind : Kind) (bytes : List ℕ) (look : Look) (count : ℕ)
    : Type 0 where
  pub found : IsFound most kind bytes look
  pub bound : count ≤ line_feeds bytes + last_look look

-- ---- what came

-- what a read gave, by what it answered: one that would block, or was interrupted, didn't fail
abbrev pub arrival_at : ErrorKind → Arrival
arrival_at kinds.WouldBlock = arrivals.NotYet
arrival_at kinds.Interrupted = arrivals.Again
arrival_at _ = arrivals.Failed

abbrev pub arrival_of : Result ℕ Error → Arrival
arrival_of (Ok n) = if n == 0 then arrivals.Ended else arrivals.Came
arrival_of (Err e) = arrival_at (error_kind e)

-- one read was made and counted, and it gave this
pub record IsRead {T : Type 0} (old new : Counts T) (arrival : Arrival) : Type 0 where
  pub answer : Result ℕ Error
  pub counted : CountsRead old new answer
  pub gave : arrival ≡ arrival_of answer

-- so many bytes at most were read behind those that came before, and one at least
pub record Gained (room : ℕ) (before after : Option (List ℕ)) (old new : IncomingView) : Type 0 where
  pub more : List ℕ
  pub grown : new.bytes ≡ old.bytes ++ more
  pub kind : new.kind ≡ old.kind
  pub most : new.most ≡ old.most
  pub taken : Consumes before after more
  pub some : 0 < length more
  pub few : length more ≤ room

-- what came: some bytes, or none; the end is one where none is left
abbrev pub Arrives : ℕ → Option (List ℕ) → Option (List ℕ) → IncomingView → IncomingView → Arrival → Type 0
Arrives room before after old new arrivals.Came = Gained room before after old new
Arrives room before after old new arrivals.Again = (new ≡ old) × Consumes before after []
Arrives room before after old new arrivals.NotYet = (new ≡ old) × Consumes before after []
Arrives room before after old new arrivals.Ended =
    (new ≡ old) × Consumes before after [] × IsAtEnd after
Arrives room before after old new arrivals.Failed = (new ≡ old) × Consumes before after []
