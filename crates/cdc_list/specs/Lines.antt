-- The lines of a listing: what outs have published, as a text.
use Rattle.std.specs.Prelude.{ℕ, ◌+◌, ◌==◌, List, [], ◌∷◌, ◌++◌, length, map, codes, decimal, if◌then◌else◌}
use Rattle.std.specs.List.{concat}
use Rattle.cdc_outside.specs.Disk.{Image}
use Rattle.cdc_model.specs.Output.{file_name}
use Rattle.cdc_records.specs.declared.front.Front.{Front}
use Rattle.cdc_records.specs.Published.{published}

-- the name of an output's last file; a dash where there is none
abbrev pub last_file_name : ℕ → List ℕ
last_file_name number = if number == 0 then codes "-" else file_name number

-- the line of a published file: its out, its name and how many of its bytes are published
abbrev pub file_line : ℕ → ℕ → ℕ → List ℕ
file_line out number bytes = decimal out ++ (codes " " ++ (file_name number ++ (codes " " ++ (decimal bytes ++ codes "\n"))))

-- the line of an out: its number, the name of its last file, how many bytes of that are published, and how many transactions
abbrev pub out_line : ℕ → Front → List ℕ
out_line out f =
    codes "out " ++ (decimal out ++ (codes " " ++ (last_file_name f.file ++ (codes " " ++ (decimal f.length ++ (codes " " ++ (decimal f.count ++ codes "\n")))))))

-- an out as a listing shows it: its Front, and the lengths of its published files from the first one kept on
pub record ListedOut : Type 0 where
  pub front : Front
  pub lengths : List ℕ

-- the lengths of the published files
abbrev pub published_lengths : Front → Image → List ℕ
published_lengths f image = map (λ (bytes : List ℕ). length bytes) (published f image)

-- an out by its Front and its content
abbrev pub listed_out : Front → Image → ListedOut
listed_out f image = record { front = f; lengths = published_lengths f image }

-- the lines of published files of these lengths, numbered from a number on
abbrev pub file_lines : ℕ → ℕ → List ℕ → List (List ℕ)
file_lines out number [] = []
file_lines out number (bytes ∷ lengths) = file_line out number bytes ∷ file_lines out (number + 1) lengths

-- the lines of an out: one for each published file, then the out's own
abbrev pub out_lines : ℕ → ListedOut → List (List ℕ)
out_lines out shown = file_lines out shown.front.first shown.lengths ++ out_line out shown.front ∷ []

-- the lines of outs, numbered from a number on
abbrev pub listing_lines : ℕ → List ListedOut → List (List ℕ)
listing_lines out [] = []
listing_lines out (shown ∷ outs) = out_lines out shown ++ listing_lines (out + 1) outs

-- outs by their Fronts and their contents
abbrev pub listed_outs : List Front → List Image → List ListedOut
listed_outs (f ∷ fronts) (image ∷ images) = listed_out f image ∷ listed_outs fronts images
listed_outs _ _ = []

-- the text of outs, which are counted from 1: their lines, one behind another
abbrev pub listing_text : List ListedOut → List ℕ
listing_text outs = concat (listing_lines 1 outs)

-- the own lines of outs by their Fronts, numbered from a number on
abbrev pub front_lines : ℕ → List Front → List (List ℕ)
front_lines out [] = []
front_lines out (f ∷ fronts) = out_line out f ∷ front_lines (out + 1) fronts

-- the text of these outs' own lines, counted from 1
abbrev pub fronts_text : List Front → List ℕ
fronts_text fronts = concat (front_lines 1 fronts)
