-- The ends of document 01's ranges, each by its name. Where a range moves, its line here moves and no other definition.
-- Assumes nothing.
use Rattle.std.specs.Prelude.{ℕ}

-- refusal 1: "over 65,535 bytes"
abbrev pub text_most : ℕ
text_most = 65535

-- PO: "1 FPS, 2 EDF"; M-100: "PO may be 3"
abbrev pub policies_most : ℕ
policies_most = 3

-- CK: "clocks, 0 to 4"
abbrev pub clocks_most : ℕ
clocks_most = 4

-- TK: "C and D, 1 to 10,000"; IV: "limit 0 to 10,000"; GU: "c from −10,000 to 10,000"
abbrev pub time_most : ℕ
time_most = 10000

-- TK: "priority 0 to 6"
abbrev pub prio_most : ℕ
prio_most = 6

-- TK: "1 to 6" of them
abbrev pub tasks_most : ℕ
tasks_most = 6

-- LO: "1 to 16" of them
abbrev pub locations_most : ℕ
locations_most = 16

-- ED: "0 to 32" of them
abbrev pub edges_most : ℕ
edges_most = 32

-- ZN: "1 to 48 zones"; GO: "the claims, each 0 to 48"
abbrev pub zones_most : ℕ
zones_most = 48

-- ZN: "0 to 6 tasks"
abbrev pub queue_most : ℕ
queue_most = 6

-- room for what one edge or the start may release: document 01 has at most one task, M-107 two, M-112 four
abbrev pub releases_most : ℕ
releases_most = 4

-- "one place for each queue position 1 to length + 1": of one edge, in a queue of at most 6
abbrev pub places_most : ℕ
places_most = 7

-- "BD bounds run from −32,000 to 32,000."
abbrev pub bound_most : ℕ
bound_most = 32000

-- "There are at most 17 variables."
abbrev pub variables_most : ℕ
variables_most = 17
