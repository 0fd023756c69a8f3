-- The files of a folder that were listed so far.
use Rattle.std.proofs.Common.{◌≡◌, ◌∙◌, ◌<◌, ◌+◌, ◌++◌, ◌∷◌, ◌||◌, ℕ, Bool, List, [], true, false, Ok, Err, ap, append-nil, append_assoc, get_or, is_err, length, refl, subst, sym, take}
use Rattle.std.specs.List.{flat_map, list_any}
use Rattle.std.proofs.lemmas.List.{take_more}
use Rattle.std.proofs.lemmas.List.Concat.{flat_map-append}
use Rattle.std.proofs.lemmas.List.Folds.{list_any-append}
use Rattle.shop_folder.specs.declared.folder_file.FolderFile.{FolderFile}
use Rattle.stored_state.specs.declared.any_controller.AnyController.{AnyController}
use Rattle.file_commands.specs.declared.asked.ListRequest.{ListRequest}
use Rattle.file_commands.specs.declared.listed.FileLists.{FileLists}
use Rattle.file_commands.specs.Listing.{Adds, AreOf, Came, IsOf, ListsFiles, controller_in, controllers_in, head_of, lines_of, list_of, note_of, notes_of, other_lines, unlisted_note}
use Rattle.streams.specs.declared.fault.Fault.{Fault}

or_false : (b : Bool) → (b || false) ≡ b
or_false true = refl
or_false false = refl

or_true : (b : Bool) → (b || true) ≡ true
or_true true = refl
or_true false = refl

nothing_more : (xs : List ℕ) → xs ≡ xs ++ []
nothing_more xs = sym (append-nil xs)

-- the controller in a file was listed
pub adds_listed : (a : ListRequest) (f : FolderFile) (c : AnyController) (old new : FileLists) → new.lists.first.items ≡ old.lists.first.items ++ lines_of true a c → new.lists.rest.items ≡ old.lists.rest.items ++ other_lines a c → new.notes.items ≡ old.notes.items → new.refused ≡ old.refused → Adds a f (Ok c) old new
adds_listed a f c old new first rest notes refused =
    record {
      first = first ∙ ap (λ t. old.lists.first.items ++ t) (nothing_more (lines_of true a c));
      rest = rest ∙ ap (λ t. old.lists.rest.items ++ t) (nothing_more (other_lines a c));
      notes = notes ∙ nothing_more old.notes.items;
      refused = refused ∙ sym (or_false old.refused);
    }

-- a file was not listed
pub adds_unlisted : (a : ListRequest) (f : FolderFile) (fault : Fault) (old new : FileLists) → new.lists.first.items ≡ old.lists.first.items → new.lists.rest.items ≡ old.lists.rest.items → new.notes.items ≡ old.notes.items ++ unlisted_note f fault → new.refused ≡ true → Adds a f (Err fault) old new
adds_unlisted a f fault old new first rest notes refused =
    record {
      first = first ∙ nothing_more old.lists.first.items;
      rest = rest ∙ nothing_more old.lists.rest.items;
      notes = notes;
      refused = refused ∙ sym (or_true old.refused);
    }

-- the list of one controller
pub one_listed : (a : ListRequest) (c : AnyController) (first rest text : List ℕ) → text ≡ head_of a.is_json ++ first ++ rest → first ≡ lines_of true a c → rest ≡ other_lines a c → text ≡ list_of a (c ∷ [])
unfolding list_of
one_listed a c first rest text is f r =
    is ∙ ap (λ t. head_of a.is_json ++ t ++ rest) (f ∙ nothing_more (lines_of true a c))
    ∙ ap (λ t. head_of a.is_json ++ (lines_of true a c ++ []) ++ t) (r ∙ nothing_more (other_lines a c))

-- the lists, the notes and the refusals are those of what came of these files
pub record IsListed (a : ListRequest) (files : List FolderFile) (l : FileLists) : Type 0 where
  pub came : List Came
  pub of_files : AreOf files came
  pub first : l.lists.first.items ≡ flat_map (lines_of true a) (controllers_in came)
  pub rest : l.lists.rest.items ≡ flat_map (other_lines a) (controllers_in came)
  pub notes : l.notes.items ≡ notes_of files came
  pub refused : l.refused ≡ list_any is_err came

are_of_more : (files : List FolderFile) (all : List Came) (f : FolderFile) (o : Came) → AreOf files all → IsOf f o → AreOf (files ++ f ∷ []) (all ++ o ∷ [])
are_of_more [] [] f o are is = (is, tt)
are_of_more [] (p ∷ all) f o are is = absurd are
are_of_more (g ∷ files) [] f o are is = absurd are
are_of_more (g ∷ files) (p ∷ all) f o are is = (are.0, are_of_more files all f o are.1 is)

notes_more : (files : List FolderFile) (all : List Came) (f : FolderFile) (o : Came) → AreOf files all → notes_of (files ++ f ∷ []) (all ++ o ∷ []) ≡ notes_of files all ++ note_of f o
notes_more [] [] f o are = append-nil (note_of f o)
notes_more [] (p ∷ all) f o are = absurd are
notes_more (g ∷ files) [] f o are = absurd are
notes_more (g ∷ files) (p ∷ all) f o are =
    ap (λ t. note_of g p ++ t) (notes_more files all f o are.1) ∙ sym (append_assoc (note_of g p) (notes_of files all) (note_of f o))

controllers_more : (all : List Came) (o : Came) → controllers_in (all ++ o ∷ []) ≡ controllers_in all ++ controller_in o
controllers_more all o = flat_map-append controller_in all (o ∷ []) ∙ ap (λ t. controllers_in all ++ t) (append-nil (controller_in o))

lines_more : (f : AnyController → List ℕ) (all : List Came) (o : Came) (old new : List ℕ) → old ≡ flat_map f (controllers_in all) → new ≡ old ++ flat_map f (controller_in o) → new ≡ flat_map f (controllers_in (all ++ o ∷ []))
lines_more f all o old new was is =
    is ∙ ap (λ t. t ++ flat_map f (controller_in o)) was
    ∙ sym (ap (flat_map f) (controllers_more all o) ∙ flat_map-append f (controllers_in all) (controller_in o))

any_more : (all : List Came) (o : Came) (old new : Bool) → old ≡ list_any is_err all → new ≡ (old || is_err o) → new ≡ list_any is_err (all ++ o ∷ [])
any_more all o old new was is =
    is ∙ ap (λ b. b || is_err o) was ∙ ap (λ b. list_any is_err all || b) (sym (or_false (is_err o))) ∙ sym (list_any-append is_err all (o ∷ []))

-- one more file
pub listed_more : (a : ListRequest) (files : List FolderFile) (f : FolderFile) (o : Came) (old new : FileLists) → IsListed a files old → IsOf f o → Adds a f o old new → IsListed a (files ++ f ∷ []) new
listed_more a files f o old new so is adds =
    record {
      came = so.came ++ o ∷ [];
      of_files = are_of_more files so.came f o so.of_files is;
      first = lines_more (lines_of true a) so.came o old.lists.first.items new.lists.first.items so.first adds.first;
      rest = lines_more (other_lines a) so.came o old.lists.rest.items new.lists.rest.items so.rest adds.rest;
      notes = adds.notes ∙ ap (λ t. t ++ note_of f o) so.notes ∙ sym (notes_more files so.came f o so.of_files);
      refused = any_more so.came o old.refused new.refused so.refused adds.refused;
    }

-- the same of the file at an index
pub listed_at : (a : ListRequest) (files : List FolderFile) (k : ℕ) (f : FolderFile) (o : Came) (old new : FileLists) → k < length files → f ≡ get_or files k f → IsListed a (take k files) old → IsOf f o → Adds a f o old new → IsListed a (take (k + 1) files) new
listed_at a files k f o old new within is so of_file adds =
    subst (λ (fs : List FolderFile). IsListed a fs new) (sym (take_more files k f within ∙ ap (λ x. take k files ++ x ∷ []) (sym is)))
    (listed_more a (take k files) f o old new so of_file adds)

-- the list of all
pub all_listed : (a : ListRequest) (files : List FolderFile) (l : FileLists) (text : List ℕ) → text ≡ head_of a.is_json ++ l.lists.first.items ++ l.lists.rest.items → IsListed a files l → ListsFiles a files text l.refused l.notes.items
unfolding list_of
all_listed a files l text is so =
    record {
      came = so.came;
      of_files = so.of_files;
      listed = is ∙ ap (λ t. head_of a.is_json ++ t ++ l.lists.rest.items) so.first
          ∙ ap (λ t. head_of a.is_json ++ flat_map (lines_of true a) (controllers_in so.came) ++ t) so.rest;
      accepted = so.refused;
      noted = so.notes;
    }
