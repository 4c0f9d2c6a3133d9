-- The demands are met: what the files beside this one show, put together.
use Rattle.demands.specs.Demands.{Demands}
use Rattle.demands.proofs.Ends.{merging_ends_lem, merging_rows_ends_lem, reading_back_ends_lem, comparing_ends_lem, decoding_ends_lem, listing_ends_lem}
use Rattle.demands.proofs.Demanded.{decided, same_words_lem, smallest}
use Rattle.demands.proofs.Rows.{rows_meaning}
use Rattle.demands.proofs.Only.{only, comparing_meaning}
use Rattle.demands.proofs.Decoded.{meaning}
use Rattle.demands.proofs.Several.{list_meaning}

pub demands : Demands
demands = record {
  merging_ends = λ file map section. merging_ends_lem map section file;
  merging_rows_ends = merging_rows_ends_lem;
  reading_back_ends = reading_back_ends_lem;
  comparing_ends = comparing_ends_lem;
  decoding_ends = decoding_ends_lem;
  listing_ends = listing_ends_lem;
  decided = decided;
  same_words = same_words_lem;
  only = only;
  comparer = comparing_meaning;
  rows = rows_meaning;
  decoder = meaning;
  lister = list_meaning;
  smallest = smallest;
}
