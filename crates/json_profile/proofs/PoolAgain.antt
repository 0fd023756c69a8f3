-- Resources, links and audits that were written are read again.
use Rattle.std.proofs.Common.{◌≡◌, List, [], ◌∷◌, Some, refl, ap}
use Rattle.serde_json.specs.Data.{array}
use Rattle.ticket_items.specs.declared.audit.Audit.{Audit}
use Rattle.ticket_items.specs.declared.link.Link.{Link}
use Rattle.ticket_items.specs.declared.resource.Resource.{Resource}
use Rattle.json_items.proofs.Again.{pool_again, marked_again, link_again, audit_again}
use Rattle.json_items.specs.declared.resources.shown_form.Showing.{Showing}
use Rattle.json_items.specs.Audits.{audit_form}
use Rattle.json_items.specs.TicketDraft.{resources_of}
use Rattle.json_items.specs.Listed.{data_items, pool_form}
use Rattle.json_items.specs.Resources.{MarkedResource}
use Rattle.json_items.specs.Resources.{resource_form}
use Rattle.json_items.specs.Links.{link_form}
use Rattle.json_items.specs.Resources.{raw_data, all_showing}
use Rattle.json_items.specs.Links.{link_data}
use Rattle.json_items.specs.Audits.{audit_data}

-- a pool whose resources show something each
pub raw_resources-again : (raws : List MarkedResource) → pool_form resource_form (Some (array (data_items raw_data raws))) ≡ Some raws
raw_resources-again raws = pool_again resource_form raw_data marked_again raws

-- the resources that are shown so
pub resources_of-all_showing : (shown : Showing) (rs : List Resource) → resources_of (all_showing shown rs) ≡ rs
resources_of-all_showing shown [] = refl
resources_of-all_showing shown (r ∷ rs) = ap (λ more. r ∷ more) (resources_of-all_showing shown rs)

pub links-again : (ls : List Link) → pool_form link_form (Some (array (data_items link_data ls))) ≡ Some ls
links-again ls = pool_again link_form link_data link_again ls

pub audits-again : (as' : List Audit) → pool_form audit_form (Some (array (data_items audit_data as'))) ≡ Some as'
audits-again as' = pool_again audit_form audit_data audit_again as'
