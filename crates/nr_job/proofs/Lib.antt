mod Common
mod JobLemmas
