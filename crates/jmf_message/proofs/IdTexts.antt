-- The IDs of messages tell them apart.
use Rattle.std.proofs.Common.{◌≡◌, ℕ, ◌++◌, ◌&&◌, Bool, true, false, cond, List, [], ◌∷◌, drop, codes, Some, None, append-nil, refl, sym, ap, ◌∙◌, arith}
use Rattle.std.proofs.lemmas.Bool.{and_parts}
use Rattle.std.specs.Fmt.{decimal}
use Rattle.std.specs.List.{list_all}
use Rattle.ticket_items.proofs.SpawnTexts.{spawn_of-spawn_text}
use Rattle.ticket_items.specs.Names.{is_digit}
use Rattle.ticket_items.specs.SpawnId.{is_numeral, is_spawn_number, number_read, spawn_of}
use Rattle.jmf_message.specs.Laws.{IdsTellApart, SaysTheSame}
use Rattle.controller.specs.Words.{answer_id, command_id, command_in, is_answer, message_id, spawn_in}
use Rattle.controller.specs.declared.body.Body.{Body}
use Rattle.controller.specs.declared.body.Body.TheVariants as bodies
use Rattle.controller.specs.declared.command.Command.{Command}
use Rattle.controller.specs.declared.command.Command.TheVariants.{Submit, Return, Abort}

-- ---- what stands behind digits

-- what stands behind the number in an ID
abbrev rest : Bool → List ℕ
rest true = codes ".a"
rest false = []

abbrev digits_in : List ℕ → List ℕ
digits_in [] = []
digits_in (c ∷ cs) = cond (is_digit c) (c ∷ digits_in cs) []

abbrev behind_digits : List ℕ → List ℕ
behind_digits [] = []
behind_digits (c ∷ cs) = cond (is_digit c) (behind_digits cs) (c ∷ cs)

front : (ds : List ℕ) (answer : Bool) → list_all is_digit ds ≡ true → digits_in (ds ++ rest answer) ≡ ds
front [] true all = refl
front [] false all = refl
front (d ∷ ds) answer all =
    let parts = and_parts _ _ all in
    ap (λ b. cond b (d ∷ digits_in (ds ++ rest answer)) []) parts.0 ∙ ap (λ xs. d ∷ xs) (front ds answer parts.1)

back : (ds : List ℕ) (answer : Bool) → list_all is_digit ds ≡ true → behind_digits (ds ++ rest answer) ≡ rest answer
back [] true all = refl
back [] false all = refl
back (d ∷ ds) answer all =
    let parts = and_parts _ _ all in
    ap (λ b. cond b (behind_digits (ds ++ rest answer)) (d ∷ (ds ++ rest answer))) parts.0 ∙ back ds answer parts.1

-- ---- the digits of a spawn's number

digits_of : (ds : List ℕ) → is_numeral ds ≡ true → list_all is_digit ds ≡ true
digits_of [] h = cc
digits_of (d ∷ ds) h = (and_parts _ _ h).1

numeral_at : (b c : Bool) (n m : ℕ) → cond (b && c) (Some m) None ≡ Some n → b ≡ true
numeral_at true c n m h = refl
numeral_at false c n m h = cc

all_digits : (n : ℕ) → is_spawn_number n ≡ true → list_all is_digit (decimal n) ≡ true
all_digits n number = digits_of (decimal n) (numeral_at (is_numeral (decimal n)) (is_spawn_number (number_read 0 (decimal n))) n _ (spawn_of-spawn_text n number))

some_same : (n m : ℕ) → Some n ≡ Some m → n ≡ m
some_same n m h = cc

number_same : (n m : ℕ) → is_spawn_number n ≡ true → is_spawn_number m ≡ true → decimal n ≡ decimal m → n ≡ m
number_same n m number other h = some_same n m (sym (spawn_of-spawn_text n number) ∙ ap (λ ds. spawn_of (83 ∷ ds)) h ∙ spawn_of-spawn_text m other)

rest_same : (a b : Bool) → rest a ≡ rest b → a ≡ b
rest_same true true h = refl
rest_same true false h = cc
rest_same false true h = cc
rest_same false false h = refl

-- ---- IDs

abbrev id_with : Command → ℕ → Bool → List ℕ
id_with asked n true = answer_id asked n
id_with asked n false = command_id asked n

id_of : (b : Body) → message_id b ≡ id_with (command_in b) (spawn_in b) (is_answer b)
id_of (bodies.Submit part) = refl
id_of (bodies.Return part) = refl
id_of (bodies.Abort n) = refl
id_of (bodies.Answer asked n result) = refl

-- what stands behind the mark and the letter of a spawn
tail : (asked : Command) (n : ℕ) (answer : Bool) → drop 3 (id_with asked n answer) ≡ decimal n ++ rest answer
tail Submit n true = refl
tail Submit n false = sym (append-nil (decimal n))
tail Return n true = refl
tail Return n false = sym (append-nil (decimal n))
tail Abort n true = refl
tail Abort n false = sym (append-nil (decimal n))

-- the letter of the mark
abbrev first : List ℕ → ℕ
first [] = 0
first (c ∷ cs) = c

abbrev letter : Command → ℕ
letter Submit = 81
letter Return = 82
letter Abort = 65

first_letter : (asked : Command) (n : ℕ) (answer : Bool) → first (id_with asked n answer) ≡ letter asked
first_letter Submit n true = refl
first_letter Submit n false = refl
first_letter Return n true = refl
first_letter Return n false = refl
first_letter Abort n true = refl
first_letter Abort n false = refl

letter_same : (c d : Command) → letter c ≡ letter d → c ≡ d
letter_same Submit Submit h = refl
letter_same Submit Return h = absurd (omega (arith, h))
letter_same Submit Abort h = absurd (omega (arith, h))
letter_same Return Submit h = absurd (omega (arith, h))
letter_same Return Return h = refl
letter_same Return Abort h = absurd (omega (arith, h))
letter_same Abort Submit h = absurd (omega (arith, h))
letter_same Abort Return h = absurd (omega (arith, h))
letter_same Abort Abort h = refl

ids_differ : (a b : Body) → is_spawn_number (spawn_in a) ≡ true → is_spawn_number (spawn_in b) ≡ true → message_id a ≡ message_id b → SaysTheSame a b
ids_differ a b number other h =
    let ids = sym (id_of a) ∙ h ∙ id_of b in
    let letters = sym (first_letter (command_in a) (spawn_in a) (is_answer a)) ∙ ap first ids ∙ first_letter (command_in b) (spawn_in b) (is_answer b) in
    let tails = sym (tail (command_in a) (spawn_in a) (is_answer a)) ∙ ap (drop 3) ids ∙ tail (command_in b) (spawn_in b) (is_answer b) in
    let mine = all_digits (spawn_in a) number in
    let others = all_digits (spawn_in b) other in
    record {
      command = letter_same (command_in a) (command_in b) letters;
      answer = rest_same (is_answer a) (is_answer b) (sym (back (decimal (spawn_in a)) (is_answer a) mine) ∙ ap behind_digits tails ∙ back (decimal (spawn_in b)) (is_answer b) others);
      spawn = number_same (spawn_in a) (spawn_in b) number other (sym (front (decimal (spawn_in a)) (is_answer a) mine) ∙ ap digits_in tails ∙ front (decimal (spawn_in b)) (is_answer b) others);
    }

ids_same : (a b : Body) → SaysTheSame a b → message_id a ≡ message_id b
ids_same a b same =
    id_of a
    ∙ ap (λ c. id_with c (spawn_in a) (is_answer a)) same.command
    ∙ ap (λ n. id_with (command_in b) n (is_answer a)) same.spawn
    ∙ ap (id_with (command_in b) (spawn_in b)) same.answer
    ∙ sym (id_of b)

pub ids_tell_apart : IdsTellApart
ids_tell_apart a b number other = (ids_differ a b number other, ids_same a b)
