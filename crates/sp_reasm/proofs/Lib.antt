mod StandLemmas
mod PieceLemmas
mod FloorLemmas
mod PlaceLemmas
mod RunLemmas
mod TellLemmas
mod FillLemmas
mod SinkLemmas
