-- What a place in etcd names.
use Rattle.etcd_place.specs.Place.{Named}
use Rattle.etcd_place.specs.declared.etcd_place.EtcdPlace.{EtcdPlace}

-- its gateway and the name of its value
abbrev pub named : EtcdPlace → Named
named place = record { gateway = place.gateway.now; name = place.name.now }
