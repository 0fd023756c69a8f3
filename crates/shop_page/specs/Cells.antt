-- The parts of a page. What comes of a ticket, of a name or of a path stands in it escaped.
use Rattle.std.specs.Prelude.{◌++◌, ◌∷◌, ℕ, List, [], codes}
use Rattle.job_picture.specs.Texts.{escaped_text}
use Rattle.shop_page.specs.declared.style.TheConstants.{STYLE}

-- a cell with a text
unfoldable pub cell : List ℕ → List ℕ
cell text = codes "<td>" ++ escaped_text text ++ codes "</td>"

-- a cell that leads to the page of a controller
unfoldable pub link_cell : List ℕ → List ℕ
link_cell name =
    codes "<td><a href=\"/" ++ escaped_text name ++ codes "\">" ++ escaped_text name ++ codes "</a></td>"

-- what stands above all else
unfoldable pub head : List ℕ → List ℕ
head title =
    codes "<!DOCTYPE html>" ++ 10 ∷ codes "<html lang=\"en\"><head><meta charset=\"utf-8\">"
    ++ codes "<meta http-equiv=\"refresh\" content=\"5\">"
    ++ codes "<meta name=\"viewport\" content=\"width=device-width\">"
    ++ STYLE.now ++ codes "<title>" ++ escaped_text title ++ codes "</title></head><body>" ++ 10 ∷ []

-- what stands below all else
unfoldable pub foot : List ℕ
foot = codes "</body></html>" ++ 10 ∷ []

-- the page of a controller with its picture
unfoldable pub controller_page : List ℕ → List ℕ → List ℕ
controller_page name picture =
    head name ++ codes "<header><a href=\"/\">All controllers</a></header>" ++ 10 ∷ picture ++ foot
