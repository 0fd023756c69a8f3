-- Those who wait and are told what came, one after the other.
use Rattle.std.proofs.Common.{◌≡◌, ◌∙◌, ◌<◌, ◌≤◌, ◌++◌, ℕ, List, [], ◌∷◌, Result, Err, ap, arith, length, map, min, refl, suc, subst}
use Rattle.std.proofs.lemmas.List.{length-map, map_push}
use Rattle.std.proofs.lemmas.Slice.Zip.{firsts-zip, length-zip, seconds-zip}
use Rattle.std.specs.List.{zip}
use Rattle.ticket_items.specs.declared.refusal.Refusal.{Refusal}
use Rattle.streams.specs.declared.refused.Refused.{Refused}
use Rattle.stored_state.specs.declared.taken_bytes.TakenBytes.{TakenBytes}
use Rattle.rounds.specs.Line.{AreTold, AreToldOf, taken_bytes_of}
use Rattle.rounds.specs.declared.waiting.WaitingClient.{WaitingClient}

-- ---- one more

module _ {S A : Type 0} (IsTold : Result TakenBytes Refused → WaitingClient S → A → Type 0) where
  more : (cames : List (Result TakenBytes Refused)) (waiting : List (WaitingClient S)) (told : List A) (came : Result TakenBytes Refused) (w : WaitingClient S) (a : A) → AreTold IsTold cames waiting told → IsTold came w a → AreTold IsTold (cames ++ came ∷ []) (waiting ++ w ∷ []) (told ++ a ∷ [])
  more [] [] [] came w a so is = (is, tt)
  more [] [] (b ∷ told) came w a so is = absurd so
  more [] (v ∷ waiting) told came w a so is = absurd so
  more (x ∷ cames) [] told came w a so is = absurd so
  more (x ∷ cames) (v ∷ waiting) [] came w a so is = absurd so
  more (x ∷ cames) (v ∷ waiting) (b ∷ told) came w a so is =
      (so.0, more cames waiting told came w a so.1 is)

  -- as many are told as waited
  pub as_many : (cames : List (Result TakenBytes Refused)) (waiting : List (WaitingClient S)) (told : List A) → AreTold IsTold cames waiting told → length told ≡ length waiting
  as_many [] [] [] so = refl
  as_many [] [] (b ∷ told) so = absurd so
  as_many [] (v ∷ waiting) told so = absurd so
  as_many (x ∷ cames) [] told so = absurd so
  as_many (x ∷ cames) (v ∷ waiting) [] so = absurd so
  as_many (x ∷ cames) (v ∷ waiting) (b ∷ told) so = ap suc (as_many cames waiting told so.1)

  -- one more is refused
  pub refused_more : (e : Refused) (waiting : List (WaitingClient S)) (told all : List A) (w : WaitingClient S) (a : A) → AreToldOf IsTold e waiting told → IsTold (Err e) w a → all ≡ told ++ a ∷ [] → AreToldOf IsTold e (waiting ++ w ∷ []) all
  refused_more e waiting told all w a so is pushed =
      rw pushed
      (rw (map_push {X = WaitingClient S} {Y = Result TakenBytes Refused} (λ v. Err e) waiting w)
      (more (map (λ v. Err e) waiting) waiting told (Err e) w a so is))

  -- there is room for one more who is refused
  pub room_refused : (e : Refused) (waiting refused : List (WaitingClient S)) (told : List A) (len cap : ℕ) → AreToldOf IsTold e refused told → length refused < length waiting → length waiting ≤ cap → len ≡ length told → len < cap
  room_refused e waiting refused told len cap so before room is =
      let long : length told ≡ length refused = as_many (map (λ v. Err e) refused) refused told so in omega arith

  -- all are refused
  pub refused_all : (e : Refused) (waiting refused : List (WaitingClient S)) (told : List A) → AreToldOf IsTold e refused told → refused ≡ waiting → AreToldOf IsTold e waiting told
  refused_all e waiting refused told so all =
      subst (λ (ws : List (WaitingClient S)). AreToldOf IsTold e ws told) all so

  -- those who wait, each beside what is given out of its message, are told
  abbrev pub AreGiven : List (WaitingClient S × Result TakenBytes Refusal) → List A → Type 0
  AreGiven pairs told = AreTold IsTold (map taken_bytes_of (map (λ p. p.1) pairs)) (map (λ p. p.0) pairs) told

  -- one more is told
  pub given_more : (pairs : List (WaitingClient S × Result TakenBytes Refusal)) (told all : List A) (w : WaitingClient S) (taken : Result TakenBytes Refusal) (a : A) → AreGiven pairs told → IsTold (taken_bytes_of taken) w a → all ≡ told ++ a ∷ [] → AreGiven (pairs ++ (w, taken) ∷ []) all
  given_more pairs told all w taken a so is pushed =
      let firsts = map_push (λ (p : WaitingClient S × Result TakenBytes Refusal). p.0) pairs (w, taken) in
      let seconds = map_push (λ (p : WaitingClient S × Result TakenBytes Refusal). p.1) pairs (w, taken) in
      let came = ap (map taken_bytes_of) seconds ∙ map_push taken_bytes_of (map (λ p. p.1) pairs) taken in
      rw pushed
      (rw firsts
      (rw came (more (map taken_bytes_of (map (λ p. p.1) pairs)) (map (λ p. p.0) pairs) told (taken_bytes_of taken) w a so is)))

  -- there is room for one more who is told
  pub room_given : (waiting : List (WaitingClient S)) (given : List (Result TakenBytes Refusal)) (pairs : List (WaitingClient S × Result TakenBytes Refusal)) (told : List A) (len cap : ℕ) → AreGiven pairs told → length pairs < length (zip waiting given) → length waiting ≤ cap → len ≡ length told → len < cap
  room_given waiting given pairs told len cap so before room is =
      let long : length told ≡ length pairs = as_many (map taken_bytes_of (map (λ p. p.1) pairs)) (map (λ p. p.0) pairs) told so ∙ length-map pairs (λ p. p.0) in
      let most : length (zip waiting given) ≡ min (length waiting) (length given) = length-zip waiting given in omega arith

  -- all are told
  pub given_all : (waiting : List (WaitingClient S)) (given : List (Result TakenBytes Refusal)) (pairs : List (WaitingClient S × Result TakenBytes Refusal)) (told : List A) → AreGiven pairs told → pairs ≡ zip waiting given → length given ≡ length waiting → AreTold IsTold (map taken_bytes_of given) waiting told
  given_all waiting given pairs told so all each =
      let firsts : map (λ p. p.0) pairs ≡ waiting = ap (map (λ p. p.0)) all ∙ firsts-zip waiting given each in
      let seconds : map (λ p. p.1) pairs ≡ given = ap (map (λ p. p.1)) all ∙ seconds-zip waiting given each in
      subst (λ (xs : List (WaitingClient S)). AreTold IsTold (map taken_bytes_of given) xs told) firsts
      (subst (λ (ts : List (Result TakenBytes Refusal)). AreTold IsTold (map taken_bytes_of ts) (map (λ p. p.0) pairs) told) seconds so)
