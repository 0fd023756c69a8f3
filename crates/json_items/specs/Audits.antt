-- The form of audits (JDF 1.5, 3.11): from JSON data to a draft, which is an audit by its members
-- and their kinds alone. Its ids, its Status and its text may be any bytes.
use Rattle.std.specs.Prelude.{ℕ, ◌&&◌, Bool, true, List, [], ◌∷◌, codes, if◌then◌else◌, Option}
use Rattle.std.specs.Prelude.{Some, None}
use Rattle.std.specs.List.{list_all}
use Rattle.std.specs.Str.{bytes_eq}
use Rattle.serde_json.specs.Data.{Data, no_members, member, unsigned, number, string, object}
use Rattle.ticket_items.specs.Names.{is_name, is_text}
use Rattle.ticket_items.specs.declared.audit.Audit.{Audit}
use Rattle.ticket_items.specs.declared.audit.Audit.TheVariants.{Notification, Spawned, Merged}
use Rattle.json_items.specs.Listed.{texts_data, texts_under}
use Rattle.json_source.specs.Read.{◌>>=◌, some_if, has_only, text_under, number_under}

-- ---- read

abbrev pub notification_members : List (List ℕ)
notification_members = codes "Name" ∷ codes "Text" ∷ codes "TimeStamp" ∷ []

unfoldable pub notification_form : Data → Option Audit
notification_form d = do
  _ ← some_if (has_only notification_members d)
  text ← text_under (codes "Text") d
  time ← number_under (codes "TimeStamp") d
  Some (Notification time text)

abbrev pub spawn_audit_members : List (List ℕ)
spawn_audit_members = codes "Name" ∷ codes "NewSpawnID" ∷ codes "Status" ∷ codes "TimeStamp"
    ∷ codes "jRef" ∷ codes "rRefsROCopied" ∷ codes "rRefsRWCopied" ∷ []

unfoldable pub spawn_audit_form : Data → Option Audit
spawn_audit_form d = do
  _ ← some_if (has_only spawn_audit_members d)
  spawn_id ← text_under (codes "NewSpawnID") d
  status ← text_under (codes "Status") d
  time ← number_under (codes "TimeStamp") d
  jref ← text_under (codes "jRef") d
  ro ← texts_under (codes "rRefsROCopied") d
  rw ← texts_under (codes "rRefsRWCopied") d
  Some (Spawned time jref spawn_id ro rw status)

abbrev pub merge_audit_members : List (List ℕ)
merge_audit_members = codes "MergeID" ∷ codes "Name" ∷ codes "TimeStamp" ∷ codes "jRef"
    ∷ codes "rRefsOverwritten" ∷ []

unfoldable pub merge_audit_form : Data → Option Audit
merge_audit_form d = do
  _ ← some_if (has_only merge_audit_members d)
  merge_id ← text_under (codes "MergeID") d
  time ← number_under (codes "TimeStamp") d
  jref ← text_under (codes "jRef") d
  overwritten ← texts_under (codes "rRefsOverwritten") d
  Some (Merged time jref merge_id overwritten)

-- an audit, of the kind that its `Name` names
unfoldable pub audit_form : Data → Option Audit
audit_form d = do
  kind ← text_under (codes "Name") d
  if bytes_eq kind (codes "Notification") then notification_form d else
      (if bytes_eq kind (codes "Spawned") then spawn_audit_form d else
      (if bytes_eq kind (codes "Merged") then merge_audit_form d else None))

-- ---- ids, names and texts

-- all ids, and the Status
unfoldable pub audit_has_names : Audit → Bool
audit_has_names (Notification time text) = true
audit_has_names (Spawned time jref spawn_id ro rw status) = is_name spawn_id && is_name status
    && is_name jref && list_all is_name ro && list_all is_name rw
audit_has_names (Merged time jref merge_id overwritten) = is_name merge_id && is_name jref
    && list_all is_name overwritten

-- the text of a note
unfoldable pub audit_has_texts : Audit → Bool
audit_has_texts (Notification time text) = is_text text
audit_has_texts (Spawned time jref spawn_id ro rw status) = true
audit_has_texts (Merged time jref merge_id overwritten) = true

-- ---- written

abbrev pub audit_data : Audit → Data
audit_data (Notification time text) =
    object (member (codes "Name") (string (codes "Notification"))
    (member (codes "Text") (string text)
    (member (codes "TimeStamp") (number (unsigned time)) no_members)))
audit_data (Spawned time jref spawn_id ro rw status) =
    object (member (codes "Name") (string (codes "Spawned"))
    (member (codes "NewSpawnID") (string spawn_id)
    (member (codes "Status") (string status)
    (member (codes "TimeStamp") (number (unsigned time))
    (member (codes "jRef") (string jref)
    (member (codes "rRefsROCopied") (texts_data ro)
    (member (codes "rRefsRWCopied") (texts_data rw) no_members)))))))
audit_data (Merged time jref merge_id overwritten) =
    object (member (codes "MergeID") (string merge_id)
    (member (codes "Name") (string (codes "Merged"))
    (member (codes "TimeStamp") (number (unsigned time))
    (member (codes "jRef") (string jref)
    (member (codes "rRefsOverwritten") (texts_data overwritten) no_members)))))
