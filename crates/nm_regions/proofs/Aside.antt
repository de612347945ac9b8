-- A table stays sound as its legs are set aside, and each leg stays linked.
use Rattle.std.proofs.Common.{◌≡◌, ℕ, Bool, true, false, List, length, map, replicate, None, sym, ◌∙◌}
use Rattle.std.proofs.lemmas.Bool.{false≢true}
use Rattle.std.proofs.lemmas.List.{length-map, length-replicate}
use Rattle.std.proofs.lemmas.List.Elements.{All-map, All-weaker}
use Rattle.nm_regions.specs.LegFlags.{LegRegions, set_aside}
use Rattle.nm_regions.specs.Links.{AreLinked}
use Rattle.nm_regions.specs.Table.{RegionTable}
use Rattle.nm_regions.specs.Sound.{AllHave, IsRegionTable}
use Rattle.nm_regions.proofs.Linking.{count-none}

-- a leg that is out and behind nowhere needs no links
pub linked-aside : (out : Bool) (flags : List Bool) (count head : ℕ) (links : List ℕ)
    → AreLinked out flags count head links
    → AreLinked true (replicate (length flags) false) 0 head links
linked-aside out flags count head links h = record {
  places = h.places ∙ sym (length-replicate (length flags) false);
  few = rw (length-replicate (length flags) false) h.few;
  counted = sym (count-none (length flags));
  lowest = λ no. absurd (false≢true (sym no));
  linked = λ no. absurd (false≢true (sym no));
}

-- each leg keeps its regions
all-aside-have : (regions : ℕ) (legs : List LegRegions) → AllHave regions legs
    → AllHave regions (map set_aside legs)
all-aside-have regions legs h =
    All-map (λ leg. length leg.behind ≡ regions) set_aside legs
    (All-weaker (λ leg. length leg.behind ≡ regions)
    (λ leg. length (set_aside leg).behind ≡ regions)
    (λ leg is. length-replicate (length leg.behind) false ∙ is)
    legs h)

pub sound-aside : (legs : List LegRegions) (t : RegionTable) → IsRegionTable t → t.copy ≡ None
    → legs ≡ map set_aside t.legs → IsRegionTable (record t { legs = legs })
sound-aside legs t h none is = rw is (record {
  sizes = rw (length-map t.legs set_aside) h.sizes;
  covered = h.covered;
  no_more = h.no_more;
  flags = all-aside-have (length t.writes) t.legs h.flags;
  copy = rw none tt;
})
