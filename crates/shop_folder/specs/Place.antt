-- Where controllers lie.
use Rattle.std.specs.Prelude.{ℕ, List}
use Rattle.shop_folder.specs.declared.place.Place.{Place}
use Rattle.shop_folder.specs.declared.place.Place.TheVariants.{File, Folder}

-- the path of a place
abbrev pub path_of : Place → List ℕ
path_of (File path) = path.now
path_of (Folder path) = path.now
