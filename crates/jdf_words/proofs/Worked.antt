-- What clap makes of some lines of words, by computation.
use Rattle.std.proofs.Common.{◌≡◌, [], ◌∷◌, List, None, Some, codes, false, refl, true}
use Rattle.clap.specs.Words.{Text, fault_of, subcommand_of, takes}
use Rattle.clap.specs.declared.error.kind.ErrorKind.TheVariants.{DisplayHelp, DisplayVersion, InvalidSubcommand}
use Rattle.clap.proofs.OnLiterals.{clap_on_literals}
use Rattle.jdf_words.specs.Calls.{at_in, file_in, is_set_in, name_in, number_in, text_in}
use Rattle.jdf_words.specs.Commands.{jdf}

-- ---- words that are taken, and what they call for

abbrev edit : List Text
edit = codes "edit" ∷ []

edit_is : (takes jdf edit ≡ true) × (name_in (subcommand_of jdf edit) ≡ Some (codes "edit")) × (text_in (codes "from") (subcommand_of jdf edit) ≡ None)
unfolding jdf clap_on_literals
edit_is = (refl, refl, refl)

-- from a file
abbrev edit_of : List Text
edit_of = codes "edit" ∷ codes "--from" ∷ codes "x" ∷ []

edit_of_is : (takes jdf edit_of ≡ true) × (name_in (subcommand_of jdf edit_of) ≡ Some (codes "edit"))
    × (text_in (codes "from") (subcommand_of jdf edit_of) ≡ Some (codes "x")) × (text_in (codes "journal") (subcommand_of jdf edit_of) ≡ None)
unfolding jdf clap_on_literals
edit_of_is = (refl, refl, refl, refl)

abbrev world : List Text
world = codes "world" ∷ []

world_is : (takes jdf world ≡ true) × (name_in (subcommand_of jdf world) ≡ Some (codes "world"))
unfolding jdf clap_on_literals
world_is = (refl, refl)

abbrev by_loop : List Text
by_loop = codes "loop" ∷ []

loop_is : (takes jdf by_loop ≡ true) × (name_in (subcommand_of jdf by_loop) ≡ Some (codes "loop"))
unfolding jdf clap_on_literals
loop_is = (refl, refl)

abbrev new : List Text
new = codes "new" ∷ codes "job.json" ∷ []

new_is : (takes jdf new ≡ true) × (name_in (subcommand_of jdf new) ≡ Some (codes "new")) × (file_in (subcommand_of jdf new) ≡ Some (codes "job.json"))
unfolding jdf clap_on_literals
new_is = (refl, refl, refl)

abbrev order : List Text
order = codes "order" ∷ codes "job.json" ∷ codes "--at" ∷ codes "5" ∷ []

order_is : (takes jdf order ≡ true) × (name_in (subcommand_of jdf order) ≡ Some (codes "order")) × (file_in (subcommand_of jdf order) ≡ Some (codes "job.json"))
    × (at_in (subcommand_of jdf order) ≡ Some 5) × (text_in (codes "send") (subcommand_of jdf order) ≡ None)
unfolding jdf clap_on_literals
order_is = (refl, refl, refl, refl, refl)

abbrev sent : List Text
sent = codes "order" ∷ codes "job.json" ∷ codes "--at" ∷ codes "5" ∷ codes "--send" ∷ codes "http://h/jmf" ∷ []

sent_is : (takes jdf sent ≡ true) × (name_in (subcommand_of jdf sent) ≡ Some (codes "order")) × (file_in (subcommand_of jdf sent) ≡ Some (codes "job.json"))
    × (at_in (subcommand_of jdf sent) ≡ Some 5) × (text_in (codes "send") (subcommand_of jdf sent) ≡ Some (codes "http://h/jmf"))
unfolding jdf clap_on_literals
sent_is = (refl, refl, refl, refl, refl)

-- with its input from a file, and a journal
abbrev noted : List Text
noted = codes "order" ∷ codes "mis" ∷ codes "--at" ∷ codes "1" ∷ codes "--from" ∷ codes "x" ∷ codes "--journal" ∷ codes "j" ∷ []

noted_is : (takes jdf noted ≡ true) × (name_in (subcommand_of jdf noted) ≡ Some (codes "order")) × (file_in (subcommand_of jdf noted) ≡ Some (codes "mis"))
    × (at_in (subcommand_of jdf noted) ≡ Some 1) × (text_in (codes "send") (subcommand_of jdf noted) ≡ None)
    × (text_in (codes "from") (subcommand_of jdf noted) ≡ Some (codes "x")) × (text_in (codes "journal") (subcommand_of jdf noted) ≡ Some (codes "j"))
unfolding jdf clap_on_literals
noted_is = (refl, refl, refl, refl, refl, refl, refl)

-- N may stand before FILE, and go up to the last second
abbrev last : List Text
last = codes "order" ∷ codes "--at=9999999999" ∷ codes "job.json" ∷ []

last_is : (takes jdf last ≡ true) × (file_in (subcommand_of jdf last) ≡ Some (codes "job.json")) × (at_in (subcommand_of jdf last) ≡ Some 9999999999)
unfolding jdf clap_on_literals
last_is = (refl, refl, refl)

abbrev take : List Text
take = codes "take" ∷ codes "job.json" ∷ codes "--at" ∷ codes "5" ∷ []

take_is : (takes jdf take ≡ true) × (name_in (subcommand_of jdf take) ≡ Some (codes "take")) × (file_in (subcommand_of jdf take) ≡ Some (codes "job.json"))
    × (at_in (subcommand_of jdf take) ≡ Some 5)
unfolding jdf clap_on_literals
take_is = (refl, refl, refl, refl)

-- a dash is a path as any other
abbrev taken_from : List Text
taken_from = codes "take" ∷ codes "--from=-" ∷ codes "--journal=j" ∷ codes "job.json" ∷ codes "--at" ∷ codes "5" ∷ []

taken_from_is : (takes jdf taken_from ≡ true) × (file_in (subcommand_of jdf taken_from) ≡ Some (codes "job.json"))
    × (text_in (codes "from") (subcommand_of jdf taken_from) ≡ Some (codes "-")) × (text_in (codes "journal") (subcommand_of jdf taken_from) ≡ Some (codes "j"))
unfolding jdf clap_on_literals
taken_from_is = (refl, refl, refl, refl)

abbrev new_from : List Text
new_from = codes "new" ∷ codes "--from" ∷ codes "-" ∷ codes "job.json" ∷ []

new_from_is : (takes jdf new_from ≡ true) × (file_in (subcommand_of jdf new_from) ≡ Some (codes "job.json"))
    × (text_in (codes "from") (subcommand_of jdf new_from) ≡ Some (codes "-"))
unfolding jdf clap_on_literals
new_from_is = (refl, refl, refl)

abbrev show : List Text
show = codes "show" ∷ codes "job.json" ∷ []

show_is : (takes jdf show ≡ true) × (name_in (subcommand_of jdf show) ≡ Some (codes "show")) × (file_in (subcommand_of jdf show) ≡ Some (codes "job.json"))
    × (is_set_in (codes "picture") (subcommand_of jdf show) ≡ false)
unfolding jdf clap_on_literals
show_is = (refl, refl, refl, refl)

abbrev drawn : List Text
drawn = codes "show" ∷ codes "--picture" ∷ codes "job.json" ∷ []

drawn_is : (takes jdf drawn ≡ true) × (file_in (subcommand_of jdf drawn) ≡ Some (codes "job.json")) × (is_set_in (codes "picture") (subcommand_of jdf drawn) ≡ true)
unfolding jdf clap_on_literals
drawn_is = (refl, refl, refl)

abbrev check : List Text
check = codes "check" ∷ []

check_is : (takes jdf check ≡ true) × (name_in (subcommand_of jdf check) ≡ Some (codes "check")) × (text_in (codes "KIND") (subcommand_of jdf check) ≡ None)
    × (is_set_in (codes "all") (subcommand_of jdf check) ≡ false)
unfolding jdf clap_on_literals
check_is = (refl, refl, refl, refl)

abbrev checked : List Text
checked = codes "check" ∷ codes "--all" ∷ codes "ticket" ∷ []

checked_is : (takes jdf checked ≡ true) × (text_in (codes "KIND") (subcommand_of jdf checked) ≡ Some (codes "ticket"))
    × (is_set_in (codes "all") (subcommand_of jdf checked) ≡ true)
unfolding jdf clap_on_literals
checked_is = (refl, refl, refl)

abbrev explain : List Text
explain = codes "explain" ∷ codes "41" ∷ []

explain_is : (takes jdf explain ≡ true) × (name_in (subcommand_of jdf explain) ≡ Some (codes "explain")) × (text_in (codes "N") (subcommand_of jdf explain) ≡ Some (codes "41"))
unfolding jdf clap_on_literals
explain_is = (refl, refl, refl)

-- the version and help, which are no calls; of `help` clap says no more than one of two kinds
version_is : fault_of jdf (codes "--version" ∷ []) ≡ DisplayVersion ∷ []
unfolding jdf clap_on_literals
version_is = refl

help_is : fault_of jdf (codes "help" ∷ []) ≡ DisplayHelp ∷ InvalidSubcommand ∷ []
unfolding jdf clap_on_literals
help_is = refl

help_of_one_is : fault_of jdf (codes "help" ∷ codes "check" ∷ []) ≡ DisplayHelp ∷ InvalidSubcommand ∷ []
unfolding jdf clap_on_literals
help_of_one_is = refl

abbrev serve : List Text
serve = codes "serve" ∷ codes "job.json" ∷ codes "--listen" ∷ codes "h:1" ∷ []

serve_is : (takes jdf serve ≡ true) × (name_in (subcommand_of jdf serve) ≡ Some (codes "serve")) × (file_in (subcommand_of jdf serve) ≡ Some (codes "job.json"))
    × (text_in (codes "listen") (subcommand_of jdf serve) ≡ Some (codes "h:1")) × (number_in (codes "limit") (subcommand_of jdf serve) ≡ None)
    × (number_in (codes "clients") (subcommand_of jdf serve) ≡ None) × (number_in (codes "body") (subcommand_of jdf serve) ≡ None)
    × (number_in (codes "memory") (subcommand_of jdf serve) ≡ None) × (number_in (codes "requests") (subcommand_of jdf serve) ≡ None)
unfolding jdf clap_on_literals
serve_is = (refl, refl, refl, refl, refl, refl, refl, refl, refl)

-- where other controllers are, and what tells who sends
abbrev known_to : List Text
known_to = codes "serve" ∷ codes "house" ∷ codes "--listen=h:1" ∷ codes "--peers" ∷ codes "peers.json" ∷ codes "--sender-field=X-Sender"
    ∷ codes "--journal=j" ∷ codes "--page" ∷ codes "h:2" ∷ codes "--orders=o" ∷ []

known_to_is : (takes jdf known_to ≡ true) × (file_in (subcommand_of jdf known_to) ≡ Some (codes "house"))
    × (text_in (codes "peers") (subcommand_of jdf known_to) ≡ Some (codes "peers.json")) × (text_in (codes "sender-field") (subcommand_of jdf known_to) ≡ Some (codes "X-Sender"))
    × (text_in (codes "journal") (subcommand_of jdf known_to) ≡ Some (codes "j")) × (text_in (codes "page") (subcommand_of jdf known_to) ≡ Some (codes "h:2"))
    × (text_in (codes "orders") (subcommand_of jdf known_to) ≡ Some (codes "o"))
unfolding jdf clap_on_literals
known_to_is = (refl, refl, refl, refl, refl, refl, refl)

-- options may stand before FILE, and the longest time goes up to an hour
abbrev bounded : List Text
bounded = codes "serve" ∷ codes "--limit=3600" ∷ codes "--requests" ∷ codes "1" ∷ codes "--listen=h:1" ∷ codes "job.json" ∷ []

bounded_is : (takes jdf bounded ≡ true) × (file_in (subcommand_of jdf bounded) ≡ Some (codes "job.json"))
    × (number_in (codes "limit") (subcommand_of jdf bounded) ≡ Some 3600) × (number_in (codes "requests") (subcommand_of jdf bounded) ≡ Some 1)
unfolding jdf clap_on_literals
bounded_is = (refl, refl, refl, refl)

-- the least and the most of the other limits
abbrev least : List Text
least = codes "serve" ∷ codes "job.json" ∷ codes "--listen=h:1" ∷ codes "--clients=1" ∷ codes "--body=1" ∷ codes "--memory=1048576" ∷ []

least_is : (takes jdf least ≡ true) × (number_in (codes "clients") (subcommand_of jdf least) ≡ Some 1)
    × (number_in (codes "body") (subcommand_of jdf least) ≡ Some 1) × (number_in (codes "memory") (subcommand_of jdf least) ≡ Some 1048576)
unfolding jdf clap_on_literals
least_is = (refl, refl, refl, refl)

abbrev most : List Text
most = codes "serve" ∷ codes "job.json" ∷ codes "--listen=h:1" ∷ codes "--clients=65536" ∷ codes "--body=1073741824" ∷ codes "--memory=1099511627776" ∷ []

most_is : (takes jdf most ≡ true) × (number_in (codes "clients") (subcommand_of jdf most) ≡ Some 65536)
    × (number_in (codes "body") (subcommand_of jdf most) ≡ Some 1073741824) × (number_in (codes "memory") (subcommand_of jdf most) ≡ Some 1099511627776)
unfolding jdf clap_on_literals
most_is = (refl, refl, refl, refl)

abbrev send : List Text
send = codes "send" ∷ codes "http://h/jmf" ∷ codes "message.json" ∷ []

send_is : (takes jdf send ≡ true) × (name_in (subcommand_of jdf send) ≡ Some (codes "send"))
    × (text_in (codes "URL") (subcommand_of jdf send) ≡ Some (codes "http://h/jmf")) × (file_in (subcommand_of jdf send) ≡ Some (codes "message.json"))
unfolding jdf clap_on_literals
send_is = (refl, refl, refl, refl)

-- a dash is a path here too
abbrev dashed : List Text
dashed = codes "send" ∷ codes "http://h/jmf" ∷ codes "-" ∷ []

dashed_is : (takes jdf dashed ≡ true) × (file_in (subcommand_of jdf dashed) ≡ Some (codes "-"))
unfolding jdf clap_on_literals
dashed_is = (refl, refl)

abbrev piped : List Text
piped = codes "send" ∷ codes "http://h/jmf" ∷ []

piped_is : (takes jdf piped ≡ true) × (file_in (subcommand_of jdf piped) ≡ None)
unfolding jdf clap_on_literals
piped_is = (refl, refl)

-- ---- words that are not

no_command : takes jdf (codes "frob" ∷ []) ≡ false
unfolding jdf clap_on_literals
no_command = refl

no_time : takes jdf (codes "order" ∷ codes "job.json" ∷ []) ≡ false
unfolding jdf clap_on_literals
no_time = refl

too_late : takes jdf (codes "order" ∷ codes "job.json" ∷ codes "--at" ∷ codes "10000000000" ∷ []) ≡ false
unfolding jdf clap_on_literals
too_late = refl

no_number : takes jdf (codes "take" ∷ codes "job.json" ∷ codes "--at" ∷ codes "noon" ∷ []) ≡ false
unfolding jdf clap_on_literals
no_number = refl

twice_drawn : takes jdf (codes "show" ∷ codes "job.json" ∷ codes "--picture" ∷ codes "--picture" ∷ []) ≡ false
unfolding jdf clap_on_literals
twice_drawn = refl

no_input_of_show : takes jdf (codes "show" ∷ codes "job.json" ∷ codes "--from" ∷ codes "x" ∷ []) ≡ false
unfolding jdf clap_on_literals
no_input_of_show = refl

no_journal_of_new : takes jdf (codes "new" ∷ codes "job.json" ∷ codes "--journal" ∷ codes "j" ∷ []) ≡ false
unfolding jdf clap_on_literals
no_journal_of_new = refl

no_file : takes jdf (codes "show" ∷ []) ≡ false
unfolding jdf clap_on_literals
no_file = refl

no_address : takes jdf (codes "serve" ∷ codes "job.json" ∷ []) ≡ false
unfolding jdf clap_on_literals
no_address = refl

no_time_at_all : takes jdf (codes "serve" ∷ codes "job.json" ∷ codes "--listen=h:1" ∷ codes "--limit=0" ∷ []) ≡ false
unfolding jdf clap_on_literals
no_time_at_all = refl

too_long : takes jdf (codes "serve" ∷ codes "job.json" ∷ codes "--listen=h:1" ∷ codes "--limit=3601" ∷ []) ≡ false
unfolding jdf clap_on_literals
too_long = refl

no_clients : takes jdf (codes "serve" ∷ codes "job.json" ∷ codes "--listen=h:1" ∷ codes "--clients=0" ∷ []) ≡ false
unfolding jdf clap_on_literals
no_clients = refl

too_many_clients : takes jdf (codes "serve" ∷ codes "job.json" ∷ codes "--listen=h:1" ∷ codes "--clients=65537" ∷ []) ≡ false
unfolding jdf clap_on_literals
too_many_clients = refl

no_body : takes jdf (codes "serve" ∷ codes "job.json" ∷ codes "--listen=h:1" ∷ codes "--body=0" ∷ []) ≡ false
unfolding jdf clap_on_literals
no_body = refl

too_large_a_body : takes jdf (codes "serve" ∷ codes "job.json" ∷ codes "--listen=h:1" ∷ codes "--body=1073741825" ∷ []) ≡ false
unfolding jdf clap_on_literals
too_large_a_body = refl

too_little_memory : takes jdf (codes "serve" ∷ codes "job.json" ∷ codes "--listen=h:1" ∷ codes "--memory=1048575" ∷ []) ≡ false
unfolding jdf clap_on_literals
too_little_memory = refl

too_much_memory : takes jdf (codes "serve" ∷ codes "job.json" ∷ codes "--listen=h:1" ∷ codes "--memory=1099511627777" ∷ []) ≡ false
unfolding jdf clap_on_literals
too_much_memory = refl

no_requests : takes jdf (codes "serve" ∷ codes "job.json" ∷ codes "--listen=h:1" ∷ codes "--requests=0" ∷ []) ≡ false
unfolding jdf clap_on_literals
no_requests = refl

no_url : takes jdf (codes "send" ∷ []) ≡ false
unfolding jdf clap_on_literals
no_url = refl

one_more : takes jdf (codes "edit" ∷ codes "job.json" ∷ []) ≡ false
unfolding jdf clap_on_literals
one_more = refl

asks_for_help : takes jdf (codes "help" ∷ []) ≡ false
unfolding jdf clap_on_literals
asks_for_help = refl
