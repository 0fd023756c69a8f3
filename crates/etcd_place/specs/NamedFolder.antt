-- What a folder in etcd names.
use Rattle.etcd_place.specs.Place.{Named}
use Rattle.etcd_place.specs.declared.etcd_folder.EtcdFolder.{EtcdFolder}

-- its gateway and its name
abbrev pub named_folder : EtcdFolder → Named
named_folder folder = record { gateway = folder.gateway.now; name = folder.name.now }
