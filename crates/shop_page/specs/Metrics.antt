-- What a server counts, in the text that Prometheus reads: each measure below a line for what it
-- is and one for its kind.
use Rattle.std.specs.Prelude.{ℕ, ◌/◌, ◌%◌, ◌==◌, ◌++◌, ◌∷◌, List, [], chars, codes, decimal}
use Rattle.std.specs.Prelude.{encode_utf8, if◌then◌else◌, length, nat_le, slice_index}
use Rattle.std.specs.List.{enumerate_from, flat_map}
use Rattle.shop_page.specs.declared.counts.Counts.{Counts}
use Rattle.shop_page.specs.declared.counts.TheConstants.{STATUSES}
use Rattle.shop_page.specs.declared.metrics.Gauges.{Gauges}
use Rattle.shop_page.specs.declared.of_controllers.Gauge.{Gauge}
use Rattle.shop_page.specs.declared.of_controllers.Gauge.TheVariants as gauges
use Rattle.shop_page.specs.declared.of_controllers.OfController.{OfController}
use Rattle.shop_page.specs.declared.of_controllers.TheConstants.{MOST_CONTROLLERS}

-- what a measure is, and its kind
unfoldable pub help : List ℕ → List ℕ → List ℕ → List ℕ
help name kind text =
    codes "# HELP " ++ name ++ codes " " ++ text ++ 10 ∷ codes "# TYPE " ++ name ++ codes " "
    ++ kind ++ 10 ∷ []

-- a measure with one value
unfoldable pub measure : List ℕ → List ℕ → List ℕ → ℕ → List ℕ
measure name kind text value =
    help name kind text ++ name ++ codes " " ++ decimal value ++ 10 ∷ []

-- what stands now
abbrev pub gauge : List ℕ → List ℕ → ℕ → List ℕ
gauge name text value = measure name (codes "gauge") text value

abbrev pub requests : List ℕ
requests = codes "jdf_requests_total"

-- how many requests were answered with a status
unfoldable pub status_line : ℕ → ℕ → List ℕ
status_line status count =
    requests ++ codes "{code=\"" ++ decimal status ++ codes "\"} " ++ decimal count ++ 10 ∷ []

-- the line of the status in a place, with the count in that place
abbrev pub line_at : List ℕ → ℕ × ℕ → List ℕ
line_at counts e = status_line e.1 (slice_index counts e.0)

-- a line for each status, with the count in its place
abbrev pub status_lines : List ℕ → List ℕ → List ℕ
status_lines statuses counts = flat_map (line_at counts) (enumerate_from 0 statuses)

unfoldable pub requests_text : Counts → List ℕ
requests_text c =
    help requests (codes "counter") (codes "Requests that were answered, by status.")
    ++ status_lines STATUSES c.requests

-- a number of milliseconds, in seconds
unfoldable pub seconds : ℕ → List ℕ
seconds time =
    decimal (time / 1000) ++ codes "." ++ decimal (time % 1000 / 100)
    ++ decimal (time % 1000 / 10 % 10) ++ decimal (time % 1000 % 10)

abbrev pub turns : List ℕ
turns = codes "jdf_turn_seconds"

-- how long the turns took, and how many there were
unfoldable pub turns_text : Counts → List ℕ
turns_text c =
    help turns (codes "summary")
    (codes "Turns of a controller, in which its steps are made and saved.")
    ++ turns ++ codes "_sum " ++ seconds c.turns_time ++ 10 ∷ turns ++ codes "_count "
    ++ decimal c.turns ++ 10 ∷ []

-- how many clients, controllers and other files there are
unfoldable pub holdings_text : Gauges → List ℕ
holdings_text g =
    gauge (codes "jdf_clients") (codes "Clients that are held.") g.clients
    ++ gauge (codes "jdf_controllers") (codes "Controllers that were read.") g.controllers
    ++ gauge (codes "jdf_unread_files") (codes "Files that hold no controller of their name.")
    g.unread

-- how much work is open, and how its messages fare
unfoldable pub works_text : Gauges → List ℕ
works_text g =
    gauge (codes "jdf_open") (codes "Spawns and entries that are open.") g.out
    ++ gauge (codes "jdf_waiting") (codes "Messages that wait a minute or longer.") g.waiting
    ++ gauge (codes "jdf_refused") (codes "Messages that were refused.") g.refused

-- ---- of each controller

-- a character in the value of a label
unfoldable pub label_char : ℕ → List ℕ
label_char c =
    if c == 92 then codes "\\\\" else
    if c == 34 then codes "\\\"" else
    if c == 10 then codes "\\n" else encode_utf8 c

abbrev pub label_chars : List ℕ → List ℕ
label_chars cs = flat_map label_char cs

-- a text as the value of a label
abbrev pub label : List ℕ → List ℕ
label text = label_chars (chars text)

-- what stands of a controller
abbrev pub value_of : Gauge → OfController → ℕ
value_of gauges.Open c = c.out
value_of gauges.Waiting c = c.waiting
value_of gauges.Refused c = c.refused

-- the line of a controller
unfoldable pub line_of : List ℕ → List ℕ → ℕ → List ℕ
line_of name controller value =
    name ++ codes "{controller=\"" ++ label controller ++ codes "\"} " ++ decimal value ++ 10 ∷ []

-- the lines of all
abbrev pub lines_of : List ℕ → Gauge → List OfController → List ℕ
lines_of name g all = flat_map (λ c. line_of name c.controller.now (value_of g c)) all

-- a measure of all
unfoldable pub measure_of : List ℕ → List ℕ → Gauge → List OfController → List ℕ
measure_of name text g all = help name (codes "gauge") text ++ lines_of name g all

-- all measures of all
unfoldable pub measures_of : List OfController → List ℕ
measures_of all =
    measure_of (codes "jdf_controller_open")
    (codes "Spawns and entries of a controller that are open.") gauges.Open all
    ++ measure_of (codes "jdf_controller_waiting")
    (codes "Messages of a controller that wait a minute or longer.") gauges.Waiting all
    ++ measure_of (codes "jdf_controller_refused")
    (codes "Messages of a controller that were refused.") gauges.Refused all

-- the same where these are few
abbrev pub of_controllers : List OfController → List ℕ
of_controllers all = if nat_le (length all) MOST_CONTROLLERS then measures_of all else []

-- all of it
unfoldable pub metrics_text : Counts → Gauges → List OfController → List ℕ
metrics_text c g each =
    requests_text c ++ turns_text c
    ++ measure (codes "jdf_saves_total") (codes "counter") (codes "Saves of a controller's state.")
    c.saves ++ holdings_text g ++ works_text g ++ of_controllers each
