mod Judgements
mod Walks
