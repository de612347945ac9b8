-- What a verification found in the regions of a mirror.
use Rattle.std.specs.Prelude.{ℕ, ◌+◌, ◌-◌, ◌^◌, Bool, true, false, not, ◌&&◌, ◌||◌, min, nat_lt}
use Rattle.std.specs.Prelude.{if◌then◌else◌, List, replicate, slice_set, Option, None, Some}
use Rattle.std.specs.Option.{is_some}
use Rattle.nm_verify.specs.declared.findings.Findings.{Findings}
use Rattle.nm_verify.specs.declared.findings.RegionFindings.{RegionFindings}
use Rattle.nm_verify.specs.declared.findings.RegionPlace.{RegionPlace}
use Rattle.nm_verify.specs.declared.looks.Seen.{Seen}
use Rattle.nm_verify.specs.declared.looks.Seen.TheVariants.{Differs, Unread}

-- nothing was found in a region
abbrev pub nothing : RegionFindings
nothing = record { differs = None; unread = None; is_missed = false }

-- nothing was found in any region
abbrev pub nothing_found : Findings
nothing_found = record {
  compared = 0;
  differing = 0;
  unread = 0;
  missed = 0;
  places = replicate 16 (record { stripe = 0; region = 0; leg = 0 });
  unread_places = replicate 16 (record { stripe = 0; region = 0; leg = 0 });
}

-- the leg that is told, which is this one where none was
abbrev pub first_told : Option ℕ → ℕ → Option ℕ
first_told None leg = Some leg
first_told (Some first) leg = Some first

-- what is found in a region with these looks at two legs
abbrev pub seen_in : Seen → RegionFindings → RegionFindings
seen_in (Differs leg) here = record here { differs = first_told here.differs leg }
seen_in (Unread failed leg) here = record here { unread = first_told here.unread failed }
seen_in seen here = here

-- what is found in a region where something was not compared
abbrev pub missed : RegionFindings → RegionFindings
missed here = record here { is_missed = true }

-- whether the region was compared as a whole, or differs
abbrev pub is_compared : RegionFindings → Bool
is_compared here = is_some here.differs || (not (is_some here.unread) && not here.is_missed)

-- the count, one higher where that is so
abbrev pub counted : Bool → ℕ → ℕ
counted is_so count = if is_so then min (count + 1) (2 ^ 64 - 1) else count

-- the places with this region after so many, where a leg is told in it, up to the 16th
abbrev pub told : Option ℕ → ℕ → ℕ → ℕ → List RegionPlace → List RegionPlace
told None stripe region count places = places
told (Some leg) stripe region count places =
    if nat_lt count 16
    then slice_set places count (record { stripe = stripe; region = region; leg = leg })
    else places

-- what was found once this region, of this stripe, is left behind: it is counted once
abbrev pub closed : ℕ → ℕ → RegionFindings → Findings → Findings
closed stripe region here found = record {
  compared = counted (is_compared here) found.compared;
  differing = counted (is_some here.differs) found.differing;
  unread = counted (is_some here.unread) found.unread;
  missed = counted here.is_missed found.missed;
  places = told here.differs stripe region found.differing found.places;
  unread_places = told here.unread stripe region found.unread found.unread_places;
}
