-- A resource by what the code keeps.
use Rattle.resource_model.specs.Resource.{ResourceData}
use Rattle.resource_model.specs.declared.resource.Resource.TheInside.{Inside}

-- The resource that contracts see, made of the fields that the code keeps (TS-0001, 9.6).
abbrev pub resource_kept : Inside → ResourceData
resource_kept r = record {
  number = r.number;
  ty = r.ty;
  name = r.name;
  parent = r.parent;
  owner = r.owner;
  ct = r.moments.ct;
  lt = r.moments.lt;
  et = r.moments.et;
  attrs = r.attrs;
}
