use Rattle.std.proofs.Common.{ℕ, ◌≤◌, List, length, take, subst, sym, arith, ⊎_elim, length-take}
use Rattle.http_message.specs.Head.{Head, StartsWith, IfHead, IsToldOf, IsBounded}
use Rattle.http_message.specs.declared.head_says.HeadFacts.{HeadFacts}
use Rattle.http_message.proofs.Heads.{few_taken, none_in_few, none_after_few, none_after_many, none_at_all, told_in_front}
use Rattle.http_message.proofs.looking.look_for_head.Goals as goal

pub returns-then-bytes-lt-MAX_HEAD_BYTES-clause-head :
    goal.returns-then-bytes-lt-MAX_HEAD_BYTES-clause-head
returns-then-bytes-lt-MAX_HEAD_BYTES-clause-head c =
    subst (λ (b : List ℕ). IfHead c.look_in.result (λ told. (h : Head) × StartsWith c.args.kind b h × IsToldOf c.args.most c.args.bytes.now h told))
    (sym (few_taken 8192 c.args.bytes.now c.if-bytes-lt-MAX_HEAD_BYTES.true)) c.look_in.ensures.head

pub returns-then-bytes-lt-MAX_HEAD_BYTES-clause-part :
    goal.returns-then-bytes-lt-MAX_HEAD_BYTES-clause-part
returns-then-bytes-lt-MAX_HEAD_BYTES-clause-part c is head begins =
    none_in_few c.args.kind c.args.bytes.now c.if-bytes-lt-MAX_HEAD_BYTES.true
    (λ h s. c.look_in.ensures.part is h s) head begins

pub returns-then-bytes-lt-MAX_HEAD_BYTES-clause-never :
    goal.returns-then-bytes-lt-MAX_HEAD_BYTES-clause-never
returns-then-bytes-lt-MAX_HEAD_BYTES-clause-never c is more head begins =
    none_after_few c.args.kind c.args.bytes.now c.if-bytes-lt-MAX_HEAD_BYTES.true
    (λ m h s. c.look_in.ensures.never is m h s) more head begins

bounded_in : (most m : ℕ) (bytes : List ℕ) (told : HeadFacts) → m ≤ length bytes
    → IsBounded most (length (take m bytes)) told → IsBounded most (length bytes) told
bounded_in most m bytes told long bounded = record {
  size = omega (arith, bounded.size, length-take {A = ℕ});
  target = (bounded.target.0, omega (arith, bounded.target.1, length-take {A = ℕ}));
  body = bounded.body;
}

pub returns-in-Head-clause-head : goal.returns-in-Head-clause-head
returns-in-Head-clause-head c =
    let head = c.in-Head.ensures.head in (
      head.0,
      head.1,
      told_in_front c.args.most 8192 c.args.bytes.now head.0 c.in-Head.told c.in-Head.ensures.bound.target head.2,
    )

pub returns-in-Head-clause-bound : goal.returns-in-Head-clause-bound
returns-in-Head-clause-bound c =
    bounded_in c.args.most 8192 c.args.bytes.now c.in-Head.told c.if-bytes-lt-MAX_HEAD_BYTES.false c.in-Head.ensures.bound

pub returns-in-Part-clause-never : goal.returns-in-Part-clause-never
returns-in-Part-clause-never c is more head begins =
    none_after_many c.args.kind c.args.bytes.now c.if-bytes-lt-MAX_HEAD_BYTES.false
    (λ h s. ⊎_elim (λ part. c.look_in-2.ensures.part part h s)
    (λ never. none_at_all c.args.kind (take 8192 c.args.bytes.now) (λ m k t. c.look_in-2.ensures.never never m k t) h s)
    c.in-Part.is) more head begins
