-- What a journal says was seen.
-- Assumes nothing.
use Rattle.std.specs.Prelude.{ℕ, zero, suc, ◌-◌, min, cond, List, [], ◌∷◌, ◌++◌, length, nat_le, nat_lt, slice_index}
use Rattle.routes.specs.declared.Ask.TheVariants.{Find, Change}
use Rattle.routes.specs.declared.Piece.{Piece}
use Rattle.routes.specs.Routes.{Event, Asked, Told, Turned}
use Rattle.world.specs.Notes.{read_pieces, skip_pieces, told_of}
use Rattle.world.specs.declared.journal.Journal.{Journal}

-- the first n of a list, the last of them on top
unfoldable pub stack_of : List ℕ → ℕ → List ℕ
stack_of xs zero = []
stack_of xs (suc n) = slice_index xs n ∷ stack_of xs n

unfoldable pub top : List ℕ → ℕ
top [] = 0
top (x ∷ xs) = x

unfoldable pub below : List ℕ → List ℕ
below [] = []
below (x ∷ xs) = xs

-- of a change at most 8 pieces are noted; of more than 8 they count twice
abbrev pub kept : ℕ → ℕ
kept n = min n 8

abbrev pub spread : ℕ → List Piece → List Piece
spread n ps = cond (nat_le n 8) ps (ps ++ ps)

-- the events of these kinds with these words, the latest first
unfoldable pub events_of : List ℕ → List ℕ → List Event
events_of [] ws = []
events_of (k ∷ ks) ws =
    cond (nat_lt k 16) (Turned k ∷ events_of ks ws)
    (cond (nat_lt k 32) (Told (k - 16) (told_of (top ws)) ∷ events_of ks (below ws))
    (cond (nat_lt k 48) (Asked (k - 32) (Find (top ws)) [] ∷ events_of ks (below ws))
    (Asked (k - 48) (Change (top ws)) (spread (top ws) (read_pieces (kept (top ws)) (below ws))) ∷ events_of ks (skip_pieces (kept (top ws)) (below ws)))))

abbrev pub kinds_of : Journal → List ℕ
kinds_of j = stack_of j.kinds.now j.events

abbrev pub notes_of : Journal → List ℕ
notes_of j = stack_of j.notes.now j.noted

abbrev pub seen_of : Journal → List Event
seen_of j = events_of (kinds_of j) (notes_of j)

-- how many words and events more there is room for
abbrev pub room_of : Journal → ℕ
room_of j = length j.notes.now - j.noted

abbrev pub event_room_of : Journal → ℕ
event_room_of j = length j.kinds.now - j.events
