-- What is found of nodes.
use Rattle.std.proofs.Common.{◌≡◌, ◌∙◌, ◌&&◌, ℕ, Bool, true, false, List, [], ◌∷◌, ◌++◌, map, codes, Option, Some, None, refl, sym, ap, subst}
use Rattle.std.proofs.Math.Bool.{and-true}
use Rattle.std.proofs.lemmas.List.{map_push}
use Rattle.std.proofs.lemmas.List.Folds.{list_all-append}
use Rattle.std.specs.List.{list_all}
use Rattle.std.specs.Bool.{⊤}
use Rattle.serde_json.specs.Data.{Data}
use Rattle.serde_json.specs.Find.{as_str, get}
use Rattle.ticket_items.specs.Attrs.{Pairs}
use Rattle.ticket_items.specs.Names.{is_name}
use Rattle.ticket_items.specs.declared.audit.Audit.{Audit}
use Rattle.ticket_items.specs.declared.link.Link.{Link}
use Rattle.ticket_items.specs.declared.node_row.NodeRow.{NodeRow}
use Rattle.ticket_items.specs.declared.refusal.Refusal.{Refusal}
use Rattle.ticket_items.specs.declared.resource.Resource.{Resource}
use Rattle.json_items.proofs.ListLemmas.{Fails-weaker}
use Rattle.json_items.proofs.Tests.{all_true}
use Rattle.json_items.specs.Attributes.{attrs_have_names, attrs_have_texts}
use Rattle.json_items.specs.Audits.{audit_form, audit_has_names, audit_has_texts}
use Rattle.json_items.specs.Validation.{Finds, both_read, first_fault, on_both}
use Rattle.json_items.specs.Links.{link_form, link_has_names}
use Rattle.json_items.specs.Listed.{one_more, pool_form}
use Rattle.json_items.specs.Members.{four_form}
use Rattle.json_items.specs.Resources.{MarkedResource, resource_form, resource_has_names, resource_has_texts}
use Rattle.json_items.specs.TicketDraft.{RawRow, are_bare, own_row, resources_of}
use Rattle.json_items.specs.TicketForm.{node_has_names, pools_have_names, row_has_names, row_has_texts}
use Rattle.json_source.specs.Read.{◌>>=◌, Fails, attrs_of, has_only, some_if}
use Rattle.json_reader.proofs.Findings.{same_faults}
use Rattle.json_reader.specs.Found.{IsFound}
use Rattle.json_reader.specs.declared.found_nodes.FoundNodes.{FoundNodes}

-- ---- a node, of what it has beside its resources, and these

abbrev pub Own : Type 0
Own = ((((List ℕ × List ℕ) × List ℕ) × List ℕ) × Pairs) × (List Link × List Audit)

abbrev pub row_of : ℕ → Own × List Resource → NodeRow
row_of depth p = record {
  id = p.0.0.0.0.0.0;
  depth = depth;
  kind = p.0.0.0.0.0.1;
  job_part = p.0.0.0.0.1;
  status = p.0.0.0.1;
  attrs = p.0.0.1;
  resources = p.1;
  links = p.0.1.0;
  audits = p.0.1.1;
}

abbrev pub raw_of : ℕ → Own → List MarkedResource → RawRow
raw_of depth o pool = record { row = row_of depth (o, resources_of pool); pool = pool }

abbrev pub four : Data → Option (((List ℕ × List ℕ) × List ℕ) × List ℕ)
four = four_form (codes "ID") as_str (codes "Type") as_str (codes "JobPartID") as_str (codes "Status") as_str

abbrev pub attrs : Data → Option Pairs
attrs d = attrs_of (get (codes "Attr") d)

abbrev pub links : Data → Option (List Link)
links d = pool_form link_form (get (codes "ResourceLinkPool") d)

abbrev pub audits : Data → Option (List Audit)
audits d = pool_form audit_form (get (codes "AuditPool") d)

abbrev pub pool_of : Data → Option (List MarkedResource)
pool_of d = pool_form resource_form (get (codes "ResourcePool") d)

abbrev pub own_of : Data → Option Own
own_of d = both_read (both_read (four d) (attrs d)) (both_read (links d) (audits d))

-- the order in which the parts are read is free
in_turn : (n : ℕ) (t : Option ⊤) (id job kind status : Option (List ℕ)) (attrs : Option Pairs) (resources : Option (List MarkedResource)) (links : Option (List Link)) (audits : Option (List Audit))
    → (t >>= λ _. id >>= λ i. job >>= λ j. kind >>= λ k. status >>= λ s. attrs >>= λ a. resources >>= λ x. links >>= λ y. audits >>= λ z. Some (raw_of n (((((i, k), j), s), a), (y, z)) x))
    ≡ (t >>= λ _. both_read (both_read (both_read (both_read (both_read id kind) job) status) attrs) (both_read links audits) >>= λ o. resources >>= λ x. Some (raw_of n o x))
in_turn n None id job kind status attrs resources links audits = refl
in_turn n (Some u) None job kind status attrs resources links audits = refl
in_turn n (Some u) (Some i) None None status attrs resources links audits = refl
in_turn n (Some u) (Some i) None (Some k) status attrs resources links audits = refl
in_turn n (Some u) (Some i) (Some j) None status attrs resources links audits = refl
in_turn n (Some u) (Some i) (Some j) (Some k) None attrs resources links audits = refl
in_turn n (Some u) (Some i) (Some j) (Some k) (Some s) None resources links audits = refl
in_turn n (Some u) (Some i) (Some j) (Some k) (Some s) (Some a) None None audits = refl
in_turn n (Some u) (Some i) (Some j) (Some k) (Some s) (Some a) None (Some y) None = refl
in_turn n (Some u) (Some i) (Some j) (Some k) (Some s) (Some a) None (Some y) (Some z) = refl
in_turn n (Some u) (Some i) (Some j) (Some k) (Some s) (Some a) (Some x) None audits = refl
in_turn n (Some u) (Some i) (Some j) (Some k) (Some s) (Some a) (Some x) (Some y) None = refl
in_turn n (Some u) (Some i) (Some j) (Some k) (Some s) (Some a) (Some x) (Some y) (Some z) = refl

in_parts : (names : List (List ℕ)) (n : ℕ) (d : Data) → own_row names n d ≡ (some_if (has_only names d) >>= λ _. own_of d >>= λ o. pool_of d >>= λ x. Some (raw_of n o x))
unfolding own_row
in_parts names n d = in_turn n (some_if (has_only names d)) _ _ _ _ (attrs d) (pool_of d) (links d) (audits d)

pub not_only : (names : List (List ℕ)) (n : ℕ) (d : Data) → some_if (has_only names d) ≡ None → own_row names n d ≡ None
not_only names n d none = in_parts names n d ∙ ap (λ t. t >>= λ _. own_of d >>= λ o. pool_of d >>= λ x. Some (raw_of n o x)) none

behind_only : (names : List (List ℕ)) (n : ℕ) (d : Data) → some_if (has_only names d) ≡ Some tt → own_row names n d ≡ (own_of d >>= λ o. pool_of d >>= λ x. Some (raw_of n o x))
behind_only names n d only = in_parts names n d ∙ ap (λ t. t >>= λ _. own_of d >>= λ o. pool_of d >>= λ x. Some (raw_of n o x)) only

pub own_fails : (names : List (List ℕ)) (n : ℕ) (d : Data) (e : Refusal) → some_if (has_only names d) ≡ Some tt → Fails e (own_of d) → Fails e (own_row names n d)
own_fails names n d e only = Fails-weaker e (own_of d) _ (λ none. behind_only names n d only ∙ ap (λ q. q >>= λ o. pool_of d >>= λ x. Some (raw_of n o x)) none)

pub none_then : {X Y : Type 0} (o : Option X) (f : X → Option Y) → ((x : X) → f x ≡ None) → (o >>= f) ≡ None
none_then None f none = refl
none_then (Some x) f none = none x

pub pool_fails : (names : List (List ℕ)) (n : ℕ) (d : Data) (e : Refusal) → some_if (has_only names d) ≡ Some tt → Fails e (pool_of d) → Fails e (own_row names n d)
pool_fails names n d e only =
    Fails-weaker e (pool_of d) _ (λ none. behind_only names n d only ∙ none_then (own_of d) (λ o. pool_of d >>= λ x. Some (raw_of n o x)) (λ o. ap (λ q. q >>= λ x. Some (raw_of n o x)) none))

pub first_fails : {X Y : Type 0} (e : Refusal) (a : Option X) (b : Option Y) → Fails e a → Fails e (both_read a b)
first_fails e a b = Fails-weaker e a _ (λ none. ap (λ o. both_read o b) none)

pub second_fails : {X Y : Type 0} (e : Refusal) (a : Option X) (b : Option Y) → Fails e b → Fails e (both_read a b)
second_fails e a b = Fails-weaker e b _ (λ none. none_then a (λ x. b >>= λ y. Some (x, y)) (λ x. ap (λ o. o >>= λ y. Some (x, y)) none))

pub row_read : (names : List (List ℕ)) (n : ℕ) (d : Data) (o : Own) (pool : List MarkedResource) → some_if (has_only names d) ≡ Some tt → own_of d ≡ Some o → pool_of d ≡ Some pool → own_row names n d ≡ Some (raw_of n o pool)
row_read names n d o pool only own read =
    behind_only names n d only ∙ ap (λ q. q >>= λ v. pool_of d >>= λ x. Some (raw_of n v x)) own ∙ ap (λ q. q >>= λ x. Some (raw_of n o x)) read

-- ---- its names and texts

abbrev pub four_names : ((List ℕ × List ℕ) × List ℕ) × List ℕ → Bool
four_names = on_both (on_both (on_both is_name is_name) is_name) is_name

abbrev pub four_texts : ((List ℕ × List ℕ) × List ℕ) × List ℕ → Bool
four_texts = on_both (on_both (on_both (λ _. true) (λ _. true)) (λ _. true)) (λ _. true)

abbrev pub own_names : Own → Bool
own_names = on_both (on_both four_names attrs_have_names) (on_both (list_all link_has_names) (list_all audit_has_names))

abbrev pub own_texts : Own → Bool
own_texts = on_both (on_both four_texts attrs_have_texts) (on_both (list_all (λ _. true)) (list_all audit_has_texts))

in_front : (n l u r : Bool) → ((n && (l && u)) && r) ≡ (n && ((r && l) && u))
in_front false l u r = refl
in_front true false u true = refl
in_front true false u false = refl
in_front true true false true = refl
in_front true true false false = refl
in_front true true true true = refl
in_front true true true false = refl

same_names : (n : ℕ) (p : Own × List Resource) → on_both own_names (list_all resource_has_names) p ≡ row_has_names (row_of n p)
unfolding node_has_names pools_have_names
same_names n p = in_front (on_both four_names attrs_have_names p.0.0) (list_all link_has_names p.0.1.0) (list_all audit_has_names p.0.1.1) (list_all resource_has_names p.1)

texts_in_front : (a u r : Bool) → ((a && u) && r) ≡ ((a && r) && u)
texts_in_front false u r = refl
texts_in_front true true true = refl
texts_in_front true true false = refl
texts_in_front true false true = refl
texts_in_front true false false = refl

same_texts : (n : ℕ) (p : Own × List Resource) → on_both own_texts (list_all resource_has_texts) p ≡ row_has_texts (row_of n p)
unfolding row_has_texts
same_texts n p =
    ap (λ b. (attrs_have_texts p.0.0.1 && (b && list_all audit_has_texts p.0.1.1)) && list_all resource_has_texts p.1) (all_true p.0.1.0)
    ∙ texts_in_front (attrs_have_texts p.0.0.1) (list_all audit_has_texts p.0.1.1) (list_all resource_has_texts p.1)

abbrev pub fault : Own × List Resource → Option Refusal
fault = first_fault (on_both own_names (list_all resource_has_names)) (on_both own_texts (list_all resource_has_texts))

pub same_fault : (n : ℕ) (p : Own × List Resource) → fault p ≡ first_fault row_has_names row_has_texts (row_of n p)
same_fault n p = same_faults (on_both own_names (list_all resource_has_names)) (on_both own_texts (list_all resource_has_texts)) row_has_names row_has_texts p (row_of n p) (same_names n p) (same_texts n p)

-- ---- one node more

pub rows_more : (before : List RawRow) (raw : RawRow) (old new : FoundNodes) (bare : Bool) → IsFound before old → bare ≡ are_bare raw.pool
    → Finds (first_fault (list_all row_has_names) (list_all row_has_texts)) new.rows (one_more (Some (map (λ r. r.row) before)) (Some raw.row)) → new.bare ≡ (old.bare && bare) → IsFound (before ++ raw ∷ []) new
rows_more before raw old new bare is shows judged both = record {
  rows = subst (λ rs. Finds (first_fault (list_all row_has_names) (list_all row_has_texts)) new.rows (Some rs)) (sym (map_push (λ r. r.row) before raw)) judged;
  bare =
      both ∙ ap (λ b. b && bare) is.bare ∙ ap (λ b. list_all (λ r. are_bare r.pool) before && b) (shows ∙ sym (and-true (are_bare raw.pool)))
      ∙ sym (list_all-append (λ r. are_bare r.pool) before (raw ∷ []));
}
