-- The commands of the program and their arguments, as `clap` is told of them.
use Rattle.std.specs.Prelude.{ℕ, List, [], ◌∷◌, Some, codes, true, false}
use Rattle.clap.specs.Words.{App, Rule, Shape, Text, new_rule}
use Rattle.clap.specs.Simple.{new_shape}
use Rattle.clap.specs.declared.builder.action.ArgAction.TheVariants.{SetTrue}
use Rattle.clap.specs.declared.builder.value_parser.ValueParser.TheVariants as parser

-- FILE, any text, which has to be there
abbrev pub file_rule : Rule
file_rule = record (new_rule (codes "FILE")) { required = true }

-- an option `--name`, which takes a text
abbrev pub option_rule : Text → Rule
option_rule name = record (new_rule name) { long = Some name; value_names = 1 }

-- an option that takes a whole number within bounds
abbrev pub number_rule : Text → ℕ → ℕ → Rule
number_rule name low high =
    record (option_rule name) { parser = Some (parser.Unsigned low high) }

-- `--at N`, which has to be there: a whole number of at most ten digits
abbrev pub at_rule : Rule
at_rule = record (number_rule (codes "at") 0 9999999999) { required = true }

-- `--send URL`, any text
abbrev pub send_rule : Rule
send_rule = option_rule (codes "send")

-- `--from INPUT` and `--journal JOURNAL`, any text
abbrev pub from_rule : Rule
from_rule = option_rule (codes "from")

abbrev pub journal_rule : Rule
journal_rule = option_rule (codes "journal")

-- what `edit`, `new`, `order` and `take` take
abbrev pub edit_rules : List Rule
edit_rules = from_rule ∷ []

abbrev pub new_rules : List Rule
new_rules = file_rule ∷ from_rule ∷ []

abbrev pub order_rules : List Rule
order_rules = file_rule ∷ at_rule ∷ send_rule ∷ from_rule ∷ journal_rule ∷ []

abbrev pub take_rules : List Rule
take_rules = file_rule ∷ at_rule ∷ from_rule ∷ journal_rule ∷ []

-- an option `--name`, which takes nothing
abbrev pub flag_rule : Text → Rule
flag_rule name = record (new_rule name) { long = Some name; action = Some SetTrue }

-- `--picture`
abbrev pub picture_rule : Rule
picture_rule = flag_rule (codes "picture")

-- `--at N`, which may be there: the same number
abbrev pub moment_rule : Rule
moment_rule = number_rule (codes "at") 0 9999999999

-- what `show` takes
abbrev pub show_rules : List Rule
show_rules = file_rule ∷ picture_rule ∷ moment_rule ∷ []

-- what `list` takes
abbrev pub list_rules : List Rule
list_rules = file_rule ∷ moment_rule ∷ flag_rule (codes "open") ∷ flag_rule (codes "json") ∷ []

-- KIND, any text
abbrev pub kind_rule : Rule
kind_rule = new_rule (codes "KIND")

-- `--all`
abbrev pub all_rule : Rule
all_rule = flag_rule (codes "all")

-- what `check` takes
abbrev pub check_rules : List Rule
check_rules = kind_rule ∷ all_rule ∷ []

-- N, any text, which has to be there
abbrev pub refusal_rule : Rule
refusal_rule = record (new_rule (codes "N")) { required = true }

-- `--listen ADDR`, any text, which has to be there
abbrev pub listen_rule : Rule
listen_rule = record (option_rule (codes "listen")) { required = true }

-- `--limit SECONDS`, up to an hour
abbrev pub limit_rule : Rule
limit_rule = number_rule (codes "limit") 1 3600

-- `--clients COUNT`, up to 65,536
abbrev pub clients_rule : Rule
clients_rule = number_rule (codes "clients") 1 65536

-- `--body BYTES`, up to a GiB
abbrev pub body_rule : Rule
body_rule = number_rule (codes "body") 1 1073741824

-- `--memory BYTES`, from a MiB up to a TiB
abbrev pub memory_rule : Rule
memory_rule = number_rule (codes "memory") 1048576 1099511627776

-- `--requests COUNT`, any number but 0
abbrev pub requests_rule : Rule
requests_rule = number_rule (codes "requests") 1 18446744073709551615

-- `--peers PEERS`, any text
abbrev pub peers_rule : Rule
peers_rule = option_rule (codes "peers")

-- `--sender-field NAME`, any text
abbrev pub sender_field_rule : Rule
sender_field_rule = option_rule (codes "sender-field")

-- `--page ADDR`, any text
abbrev pub page_rule : Rule
page_rule = option_rule (codes "page")

-- `--orders SOCKET`, any text
abbrev pub orders_rule : Rule
orders_rule = option_rule (codes "orders")

-- what `serve` takes
abbrev pub serve_rules : List Rule
serve_rules = file_rule ∷ listen_rule ∷ limit_rule ∷ clients_rule ∷ body_rule ∷ memory_rule
    ∷ requests_rule ∷ peers_rule ∷ sender_field_rule ∷ journal_rule ∷ page_rule ∷ orders_rule
    ∷ []

-- URL, any text, which has to be there
abbrev pub url_rule : Rule
url_rule = record (new_rule (codes "URL")) { required = true }

-- FILE, any text
abbrev pub message_rule : Rule
message_rule = new_rule (codes "FILE")

-- what `send` takes
abbrev pub send_rules : List Rule
send_rules = url_rule ∷ message_rule ∷ []

-- the command of a name with these arguments
abbrev pub command : Text → List Rule → Shape
command name arguments = record (new_shape name) { rules = arguments }

-- a command before it is one of the program's
abbrev pub lone_command : Shape → App
lone_command of_name = record { top = of_name; subs = [] }

-- the program before it has commands: its words come without its name, and name a command; it
-- tells its version
abbrev pub program_without_commands : App
program_without_commands = lone_command (record (new_shape (codes "jdf_cli")) {
  no_binary_name = true;
  subcommand_required = true;
  has_version = true;
})

-- the program, with its commands
unfoldable pub jdf : App
jdf = record {
  top = record program_without_commands.top { is_leaf = false };
  subs = command (codes "edit") edit_rules
      ∷ command (codes "world") []
      ∷ command (codes "loop") []
      ∷ command (codes "new") new_rules
      ∷ command (codes "order") order_rules
      ∷ command (codes "take") take_rules
      ∷ command (codes "show") show_rules
      ∷ command (codes "list") list_rules
      ∷ command (codes "check") check_rules
      ∷ command (codes "explain") (refusal_rule ∷ [])
      ∷ command (codes "serve") serve_rules
      ∷ command (codes "send") send_rules
      ∷ [];
}
