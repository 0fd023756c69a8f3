-- What calls and faults say.
use Rattle.std.specs.Prelude.{◌≡◌, ◌≢◌, ◌≤◌, ⊤, ℕ, List, Option, Some, codes, option_and_then}
use Rattle.std.specs.Prelude.{[], ◌∷◌, ◌++◌, ◌||◌, Bool, IfSome, IsSomeAnd, None, false, is_some}
use Rattle.std.specs.Prelude.{option_map, true, unwrap_or}
use Rattle.std.specs.List.{list_any}
use Rattle.std.specs.Option.{option_map_or}
use Rattle.std.specs.Str.{bytes_eq}
use Rattle.std.specs.Str.Parse.{digits_value, without_leading_plus}
use Rattle.clap.specs.Kinds.{IsAmong, Kinds}
use Rattle.clap.specs.Words.{IsUnsignedIn, Row, Text, first_of, kind_of, one_of}
use Rattle.clap.specs.declared.error.Error.{Error}
use Rattle.clap.specs.declared.error.kind.ErrorKind.{ErrorKind}
use Rattle.clap.specs.declared.error.kind.ErrorKind.TheVariants.{DisplayHelp, DisplayVersion}
use Rattle.clap.specs.declared.error.kind.ErrorKind.TheVariants.{OutOfMemory}
use Rattle.jdf_words.specs.declared.call.Call.{Call}
use Rattle.jdf_words.specs.declared.call.Call.TheVariants.{Document, Kept, Network}
use Rattle.jdf_words.specs.declared.call_fault.CallFault.{CallFault}
use Rattle.jdf_words.specs.declared.call_fault.CallFault.TheVariants.{Clap, Memory}
use Rattle.jdf_words.specs.declared.document_call.DocumentCall.{DocumentCall}
use Rattle.jdf_words.specs.declared.document_call.DocumentCall.TheVariants.{Check, Edit}
use Rattle.jdf_words.specs.declared.document_call.DocumentCall.TheVariants.{Explain, World}
use Rattle.jdf_words.specs.declared.invocation.Invocation.{Invocation}
use Rattle.jdf_words.specs.declared.kept_call.KeptCall.{KeptCall}
use Rattle.jdf_words.specs.declared.kept_call.KeptCall.TheVariants.{List as Listing, New, Order}
use Rattle.jdf_words.specs.declared.kept_call.KeptCall.TheVariants.{Show, Take}
use Rattle.jdf_words.specs.declared.network_call.NetworkCall.{NetworkCall}
use Rattle.jdf_words.specs.declared.network_call.NetworkCall.TheVariants.{Loop, Send, SendOrder}
use Rattle.jdf_words.specs.declared.network_call.NetworkCall.TheVariants.{Serve}
use Rattle.jdf_words.specs.declared.serve_limits.ServeLimits.{ServeLimits}

-- the name of the command that was found
abbrev pub name_in : Option (Text × List Row) → Option Text
name_in = option_map (λ found. found.0)

-- its argument of a name, and its FILE
abbrev pub text_in : Text → Option (Text × List Row) → Option Text
text_in id = option_and_then (λ found. first_of id found.1)

abbrev pub file_in : Option (Text × List Row) → Option Text
file_in = text_in (codes "FILE")

-- whether the flag of a name is set, and whether its is
abbrev pub is_set : Text → List Row → Bool
is_set id rows = option_map_or (λ text. bytes_eq text (codes "true")) (first_of id rows) false

abbrev pub is_set_in : Text → Option (Text × List Row) → Bool
is_set_in id found = option_map_or (λ f. is_set id f.1) found false

-- the number that digits write
abbrev pub number_of : Text → ℕ
number_of text = digits_value 10 (without_leading_plus text)

-- its number of a name, and its time
abbrev pub number_in : Text → Option (Text × List Row) → Option ℕ
number_in id = option_and_then (λ found. option_map number_of (one_of id found.1))

abbrev pub at_in : Option (Text × List Row) → Option ℕ
at_in = number_in (codes "at")

-- the number that stands in a text, where there is one, within all bounds that the text is in
abbrev pub ReadsNumber : Option Text → Option ℕ → Type 0
ReadsNumber text number = (low high : ℕ) → IfSome text (IsUnsignedIn low high)
    → (number ≡ option_map number_of text) × IfSome number (λ n. (low ≤ n) × (n ≤ high))

-- what was found is the command of this name, on this FILE at this N
abbrev pub IsTimed : Text → Text → ℕ → Option (Text × List Row) → Type 0
IsTimed name file at found = (name_in found ≡ Some name) × (file_in found ≡ Some file)
    × (at_in found ≡ Some at) × (at ≤ 9999999999)

-- the same, at the N that is among them, if it is
abbrev pub IsSeen : Text → Text → Option ℕ → Option (Text × List Row) → Type 0
IsSeen name file at found = (name_in found ≡ Some name) × (file_in found ≡ Some file)
    × (at ≡ at_in found) × IfSome at (λ n. n ≤ 9999999999)

-- the number is that of an option, or this other where it isn't there, and within bounds
abbrev pub IsNumberOr : Text → ℕ → ℕ → ℕ → ℕ → Option (Text × List Row) → Type 0
IsNumberOr id otherwise low high number found =
    (number ≡ unwrap_or (number_in id found) otherwise) × (low ≤ number) × (number ≤ high)

-- the limits of `serve` are those that were found, each another number where it isn't there
pub record AreLimits (limits : ServeLimits) (found : Option (Text × List Row)) : Type 0 where
  pub seconds : IsNumberOr (codes "limit") 5 1 3600 limits.seconds found
  pub clients : IsNumberOr (codes "clients") 1024 1 65536 limits.clients found
  pub body : IsNumberOr (codes "body") 67108864 1 1073741824 limits.body found
  pub memory : IsNumberOr (codes "memory") 268435456 1048576 1099511627776 limits.memory found

-- what was found is `serve`, on this FILE at this ADDR, with these limits, this number of requests,
-- this peers' file and this field
abbrev pub IsServe : Text → Text → ServeLimits → Option ℕ → (peers field : Option Text)
    → Option (Text × List Row) → Type 0
IsServe file listen limits requests peers field found = (name_in found ≡ Some (codes "serve"))
    × (file_in found ≡ Some file) × (text_in (codes "listen") found ≡ Some listen)
    × AreLimits limits found
    × (requests ≡ number_in (codes "requests") found) × IfSome requests (λ n. 1 ≤ n)
    × (text_in (codes "peers") found ≡ peers) × (text_in (codes "sender-field") found ≡ field)

-- what was found is `send`, to this URL, of the message in this FILE where one is named
abbrev pub IsSend : Text → Option Text → Option (Text × List Row) → Type 0
IsSend url file found = (name_in found ≡ Some (codes "send"))
    × (text_in (codes "URL") found ≡ Some url) × (file_in found ≡ file)

-- a command that wants FILE, and N
abbrev pub wants_file : Text → Bool
wants_file name = list_any (bytes_eq name)
    (codes "new" ∷ codes "order" ∷ codes "take" ∷ codes "show" ∷ codes "serve" ∷ codes "list"
    ∷ [])

abbrev pub wants_at : Text → Bool
wants_at name = list_any (bytes_eq name) (codes "order" ∷ codes "take" ∷ [])

-- a command that takes N, and else looks at the clock
abbrev pub takes_at : Text → Bool
takes_at name = list_any (bytes_eq name) (codes "show" ∷ codes "list" ∷ [])

-- one of the commands
abbrev pub is_command : Text → Bool
is_command name = list_any (bytes_eq name)
    (codes "edit" ∷ codes "world" ∷ codes "loop" ∷ codes "check" ∷ codes "explain"
    ∷ codes "send" ∷ []) || wants_file name

-- an argument of this name is among those that were found; FILE is
abbrev pub HasText : Text → List Row → Type 0
HasText id rows = is_some (first_of id rows) ≡ true

abbrev pub HasFile : List Row → Type 0
HasFile = HasText (codes "FILE")

-- an option of this name isn't among them, or is a number within bounds
abbrev pub IsWithin : Text → ℕ → ℕ → List Row → Type 0
IsWithin id low high rows = IfSome (one_of id rows) (IsUnsignedIn low high)

-- N is among them, which is a time
abbrev pub HasAt : List Row → Type 0
HasAt rows = IsSomeAnd (one_of (codes "at") rows) (IsUnsignedIn 0 9999999999)

-- N isn't among them, or is a time
abbrev pub MayHaveAt : List Row → Type 0
MayHaveAt = IsWithin (codes "at") 0 9999999999

-- what `serve` wants beside FILE is among them
pub record HasServing (rows : List Row) : Type 0 where
  pub listen : HasText (codes "listen") rows
  pub seconds : IsWithin (codes "limit") 1 3600 rows
  pub clients : IsWithin (codes "clients") 1 65536 rows
  pub body : IsWithin (codes "body") 1 1073741824 rows
  pub memory : IsWithin (codes "memory") 1048576 1099511627776 rows
  pub requests : IsWithin (codes "requests") 1 18446744073709551615 rows

-- what was found is one of the commands, with what it wants
pub record IsCall (found : Text × List Row) : Type 0 where
  pub command : is_command found.0 ≡ true
  pub file : wants_file found.0 ≡ true → HasFile found.1
  pub at : wants_at found.0 ≡ true → HasAt found.1
  pub moment : takes_at found.0 ≡ true → MayHaveAt found.1
  pub serving : bytes_eq found.0 (codes "serve") ≡ true → HasServing found.1
  pub url : bytes_eq found.0 (codes "send") ≡ true → HasText (codes "URL") found.1
  pub number : bytes_eq found.0 (codes "explain") ≡ true → HasText (codes "N") found.1

-- the call of a document is what was found: the name of the command and its arguments
abbrev pub MeansDocument : DocumentCall → Option (Text × List Row) → Type 0
MeansDocument Edit found = name_in found ≡ Some (codes "edit")
MeansDocument World found = name_in found ≡ Some (codes "world")
MeansDocument (Check kind all) found = (name_in found ≡ Some (codes "check"))
    × (text_in (codes "KIND") found ≡ option_map (λ word. word.now) kind)
    × (all ≡ is_set_in (codes "all") found)
MeansDocument (Explain number) found = (name_in found ≡ Some (codes "explain"))
    × (text_in (codes "N") found ≡ Some number.now)

-- so is that of the controller that is kept in this FILE
abbrev pub MeansKept : Text → KeptCall → Option (Text × List Row) → Type 0
MeansKept file New found = (name_in found ≡ Some (codes "new")) × (file_in found ≡ Some file)
MeansKept file (Order at) found =
    IsTimed (codes "order") file at found × (text_in (codes "send") found ≡ None)
MeansKept file (Take at) found = IsTimed (codes "take") file at found
MeansKept file (Show picture at) found =
    IsSeen (codes "show") file at found × (picture ≡ is_set_in (codes "picture") found)
MeansKept file (Listing at is_open is_json) found =
    IsSeen (codes "list") file at found × (is_open ≡ is_set_in (codes "open") found)
    × (is_json ≡ is_set_in (codes "json") found)

-- and so is that over the network
abbrev pub MeansNetwork : NetworkCall → Option (Text × List Row) → Type 0
MeansNetwork Loop found = name_in found ≡ Some (codes "loop")
MeansNetwork (SendOrder file at url) found =
    IsTimed (codes "order") file.now at found × (text_in (codes "send") found ≡ Some url.now)
MeansNetwork (Serve file listen limits requests peers field) found =
    IsServe file.now listen.now limits requests (option_map (λ path. path.now) peers)
    (option_map (λ name. name.now) field) found
MeansNetwork (Send url file) found = IsSend url.now (option_map (λ path. path.now) file) found

-- the call is what was found
abbrev pub Means : Call → Option (Text × List Row) → Type 0
Means (Document call) found = MeansDocument call found
Means (Kept file call) found = MeansKept file.now call found
Means (Network call) found = MeansNetwork call found

-- the call is what was found, and the paths and the address are the words behind `--from`,
-- `--journal` and `--page` where they are there
pub record IsInvocation (i : Invocation) (found : Option (Text × List Row)) : Type 0 where
  pub call : Means i.call found
  pub from : text_in (codes "from") found ≡ option_map (λ path. path.now) i.from
  pub journal : text_in (codes "journal") found ≡ option_map (λ path. path.now) i.journal
  pub page : text_in (codes "page") found ≡ option_map (λ address. address.now) i.page
  pub orders : text_in (codes "orders") found ≡ option_map (λ path. path.now) i.orders

-- `edit` from standard input, with no journal and no page
abbrev pub IsEdit : Invocation → Type 0
IsEdit i =
    (i.call ≡ Document Edit) × (i.from ≡ None) × (i.journal ≡ None) × (i.page ≡ None)
    × (i.orders ≡ None)

-- the fault says what clap's error says: that memory ran out, or else that error itself
abbrev pub TellsOf : Error → CallFault → Type 0
TellsOf e fault = (kind_of e ≡ OutOfMemory → fault ≡ Memory)
    × (kind_of e ≢ OutOfMemory → fault ≡ Clap e)

-- the fault is for want of memory, or is clap's, of one of these kinds and not for want of memory
abbrev pub Tells : Kinds → CallFault → Type 0
Tells kinds (Clap e) = IsAmong (kind_of e) kinds × (kind_of e ≢ OutOfMemory)
Tells kinds Memory = ⊤

-- whether what clap answers words with is what they ask for: the version, or help by `help`
abbrev pub is_asked : List Text → ErrorKind → Bool
is_asked words DisplayVersion = true
is_asked (word ∷ words) DisplayHelp = bytes_eq word (codes "help")
is_asked words kind = false

-- the line that is printed where memory ran out; of clap's texts nothing is said
abbrev pub fault_text : CallFault → Option Text
fault_text (Clap e) = None
fault_text Memory = Some (codes "Refused 90 Memory" ++ 10 ∷ [])
