-- The page of all controllers.
use Rattle.std.specs.Prelude.{ℕ, ◌-◌, ◌==◌, ◌++◌, ◌∷◌, List, [], codes, decimal, length, nat_le}
use Rattle.std.specs.Prelude.{take, if◌then◌else◌}
use Rattle.std.specs.List.{filter, flat_map}
use Rattle.job_picture.specs.Moments.{moment_text}
use Rattle.job_picture.specs.Texts.{escaped_text}
use Rattle.shop_page.specs.Cells.{foot, head}
use Rattle.shop_page.specs.Delays.{is_late, is_refused}
use Rattle.shop_page.specs.Rows.{row}
use Rattle.shop_page.specs.declared.open_work.OpenWork.{OpenWork}
use Rattle.shop_page.specs.declared.shop.Shop.{Shop}
use Rattle.shop_page.specs.declared.tables.TheConstants.{COLUMNS, MOST_ROWS}

-- the row of each work, once, in order
abbrev pub each_row : ℕ → List OpenWork → List ℕ
each_row now works = flat_map (row now) works

-- how many works have no row, in words
unfoldable pub more_words : ℕ → List ℕ
more_words more =
    codes "<p>and " ++ decimal more ++ codes " more, which /list.json has</p>" ++ 10 ∷ []

-- how many of so many works have no row where a table has at most so many; nothing where each has
-- one
abbrev pub rows_left_out : ℕ → ℕ → List ℕ
rows_left_out most count = if nat_le count most then [] else more_words (count - most)

-- what stands above a table of so many works
unfoldable pub heading : List ℕ → ℕ → List ℕ
heading words count =
    codes "<h2>" ++ words ++ codes " (" ++ decimal count ++ codes ")</h2>" ++ 10 ∷ []

-- a table of works, with how many there are above it; each has its row, as far as a table goes
unfoldable pub filled_table : List ℕ → ℕ → List OpenWork → List ℕ
filled_table words now works =
    heading words (length works) ++ COLUMNS.now ++ each_row now (take MOST_ROWS works)
    ++ codes "</table>" ++ 10 ∷ [] ++ rows_left_out MOST_ROWS (length works)

-- the same, and nothing of none
abbrev pub table : List ℕ → ℕ → List OpenWork → List ℕ
table words now works = if length works == 0 then [] else filled_table words now works

-- a figure that is large
unfoldable pub figure : ℕ → List ℕ → List ℕ
figure count words =
    codes "<span class=\"f\">" ++ decimal count ++ words ++ codes "</span>"

-- how many works are out, are late, were refused and are closed
unfoldable pub work_figures : ℕ → ℕ → ℕ → ℕ → List ℕ
work_figures out late refused closed =
    figure out (codes " out") ++ figure late (codes " without an answer")
    ++ figure refused (codes " refused") ++ figure closed (codes " closed")

-- how many controllers there are, and at what moment
unfoldable pub shop_figures : ℕ → ℕ → ℕ → List ℕ
shop_figures controllers unread now =
    codes "<span>" ++ decimal controllers ++ codes " controllers, " ++ decimal unread
    ++ codes " files that hold none; " ++ moment_text now ++ codes "</span>"

-- the path of a shop, and these figures
unfoldable pub banner : List ℕ → List ℕ → List ℕ → List ℕ
banner path works shop =
    codes "<header><h1>" ++ escaped_text path ++ codes "</h1><p>" ++ works ++ shop
    ++ codes "</p></header>" ++ 10 ∷ []

-- all figures of a shop
abbrev pub figures : Shop → ℕ → ℕ → ℕ → List ℕ
figures shop out late refused =
    banner shop.path.now (work_figures out late refused shop.closed)
    (shop_figures shop.controllers shop.unread shop.now)

-- a page with a table of what was refused, of what waits too long, and of all that is out
unfoldable pub page_of : Shop → List OpenWork → List OpenWork → List OpenWork → List ℕ
page_of shop works late refused =
    head shop.path.now ++ figures shop (length works) (length late) (length refused)
    ++ table (codes "Refused") shop.now refused
    ++ table (codes "Without an answer") shop.now late ++ table (codes "Out") shop.now works
    ++ foot

-- the page of a shop: each work is among what is out, and once more where it was refused or is late
abbrev pub page : Shop → List OpenWork → List ℕ
page shop works =
    page_of shop works (filter (is_late shop.now) works) (filter is_refused works)
