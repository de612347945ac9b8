-- The fields of a `Shape`, and the numbers that they stand for.
use Rattle.nm_geometry.specs.declared.shape.Shape.TheInside.{Inside}
use Rattle.nm_geometry.specs.Geometry.{Geometry}

-- the fields, as the numbers that they are
abbrev pub geometry_of : Inside → Geometry
geometry_of s = record {
  blocks = s.blocks;
  region = s.region;
  chunk = s.chunk;
  stripes = s.stripes;
  legs = s.legs;
  history = s.history;
}

-- the fields of these numbers
abbrev pub shape_of : Geometry → Inside
shape_of shape = record {
  blocks = shape.blocks;
  region = shape.region;
  chunk = shape.chunk;
  stripes = shape.stripes;
  legs = shape.legs;
  history = shape.history;
}
