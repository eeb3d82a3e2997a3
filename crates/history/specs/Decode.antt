-- The calls that bytes ask for. A record is the call's kind, one byte; a port and a number, four bytes each; how long its block is, two
-- bytes; and the block, which may be cut where the bytes end.
use Rattle.std.specs.Prelude.{ℕ, zero, suc, ◌+◌, ◌*◌, ◌-◌, min, cond, List, [], ◌∷◌, leb, eqb, length, get_or, take, drop}
use Rattle.lists.specs.Bytes.{word_at}
use Rattle.statements.specs.History.{Call, control, status, requested, ticked}

-- two words, the higher first
abbrev pub of_words : ℕ → ℕ → ℕ
of_words a b = a * 65536 + b

unfoldable pub number_at : List ℕ → ℕ → ℕ
number_at b at = of_words (word_at b at) (word_at b (at + 2))

-- the call of a kind, with whatever is handed in
unfoldable pub call_of : ℕ → ℕ → ℕ → List ℕ → Call
call_of kind port number block =
    cond (eqb kind 0) (control port number)
    (cond (eqb kind 1) (status port)
    (cond (eqb kind 2) (requested port number)
    (ticked block number)))

-- how long the block of the first record is
unfoldable pub block_long : List ℕ → ℕ
block_long b = min (word_at b 9) (length b - 11)

unfoldable pub first_call : List ℕ → Call
first_call b = call_of (get_or b 0 0) (number_at b 1) (number_at b 5) (take (block_long b) (drop 11 b))

-- the calls of at most so many records, put before those in hand: the latest call stands first
unfoldable pub calls_from : ℕ → List ℕ → List Call → List Call
calls_from zero b h = h
calls_from (suc most) b h = cond (leb 11 (length b)) (calls_from most (drop (11 + block_long b) b) (first_call b ∷ h)) h

-- a record is longer than nothing, so there are no more records than bytes
unfoldable pub calls_of : List ℕ → List Call
calls_of b = calls_from (length b) b []
