-- The positions of levels and lanes, in the picture's units.
use Rattle.std.specs.Prelude.{ℕ, ◌+◌, ◌*◌, min, nat_lt, if◌then◌else◌}
use Rattle.mencius_draw.specs.declared.svg.Place.{Place}

abbrev pub most_levels : ℕ
most_levels = 50_000

-- the y coordinate of the middle of a level. Levels after `most_levels` all get the coordinate of `most_levels`
abbrev pub y_of : ℕ → ℕ
y_of level = min level most_levels * 24 + 104

-- the x coordinate of a server's lane, or 416, which is left of all lanes, for a server without a lane
abbrev pub lane_of : ℕ → ℕ → ℕ
lane_of servers server = if nat_lt server (min servers 7) then server * 204 + 452 else 416

-- the middle of a level on the lane of a server
abbrev pub place_at : ℕ → ℕ → ℕ → Place
place_at servers server level = record { x = lane_of servers server; y = y_of level }
