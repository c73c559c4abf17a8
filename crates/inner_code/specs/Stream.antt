-- The inner code over a whole stream: conversion, convolution, puncturing and the mapping to symbols.
-- Clauses: EN 300 421, 4.4.3; EN 301 210, 4.6.3.
-- Assumes nothing.
use Rattle.std.specs.Prelude.{List, [], ◌∷◌, ◌++◌, map, ℕ, ◌+◌, ◌-◌, ◌%◌, length, drop}
use Rattle.convolutional_code.specs.Code.{taps_x, taps_y, convolved}
use Rattle.puncturing.specs.Mode.{CodedBit, X, Y, Mode, completed, binary}
use Rattle.inner_code.specs.Converter.{encoded_bits, uncoded_numbers, sequenced}

-- a coded bit of the pattern, where the newest bit is bit i of it
abbrev pub coded_bit : ℕ → List ℕ → CodedBit → ℕ
coded_bit i past (X j) = convolved taps_x (drop (i - j) past)
coded_bit i past (Y j) = convolved taps_y (drop (i - j) past)

abbrev pub symbol_number : ℕ → List ℕ → List CodedBit → ℕ
symbol_number i past s = binary (map (coded_bit i past) s)

-- the symbols that the newest bit completes, where it is bit i of its pattern
abbrev pub sent_at : Mode → ℕ → List ℕ → List ℕ
sent_at m i past = map (symbol_number i past) (completed m i)

-- the symbols of a list of bits that follow those of past; the pattern runs on
unfoldable pub symbols_after : Mode → List ℕ → List ℕ → List ℕ
symbols_after m past [] = []
symbols_after m past (b ∷ bs) = sent_at m (length past % m.bits + 1) (b ∷ past) ++ symbols_after m (b ∷ past) bs

-- the symbols of a whole stream of bits of the encoded branch
unfoldable pub symbols : Mode → List ℕ → List ℕ
symbols m bits = symbols_after m [] bits

-- the symbols of a whole stream of bytes: the bits E are coded, and the bits U go beside them
unfoldable pub stream_symbols : Mode → List ℕ → List ℕ
stream_symbols m bytes = sequenced (uncoded_numbers m bytes) (symbols m (encoded_bits m bytes))
