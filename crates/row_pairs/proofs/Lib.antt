pub mod PairRounds
